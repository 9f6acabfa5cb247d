use Rattle.std.proofs.Common.{◌≡◌, ◌+◌, ◌*◌, ◌^◌, length}
use Rattle.hdr_draw.specs.Rows.{number}
use Rattle.hdr_draw.proofs.powers.times_power.Given as goal

abbrev pub invariant-loop-power : goal.invariant-loop-power
invariant-loop-power l =
    (number l.product.items ≡ number l.initial.product.items * l.base ^ l.power) × (length l.product.items ≡ length l.initial.product.items + l.power)
