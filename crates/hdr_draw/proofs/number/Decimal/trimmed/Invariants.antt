use Rattle.std.proofs.Common.{◌≡◌, ◌+◌, ◌-◌, ◌*◌, ◌^◌}
use Rattle.hdr_draw.proofs.number.Decimal.trimmed.Given as goal

abbrev pub invariant-loop : goal.invariant-loop
invariant-loop l =
    (l.decimal.decimals + l.counter ≡ l.initial.decimal.decimals)
    × (l.decimal.parts * 10 ^ (l.initial.decimal.decimals - l.decimal.decimals) ≡ l.initial.decimal.parts)
