use Rattle.std.proofs.Common.{◌≡◌, ◌+◌, ◌*◌, ◌^◌, length, take}
use Rattle.hdr_draw.specs.Rows.{number}
use Rattle.hdr_draw.proofs.Digits.{base}
use Rattle.hdr_draw.proofs.powers.times.Given as goal

abbrev pub invariant-loop-digit : goal.invariant-loop-digit
invariant-loop-digit l =
    (length l.product.items ≡ l.digit-index) × (number (take l.digit-index l.digits) * l.factor ≡ number l.product.items + base ^ l.digit-index * l.carry)
