use Rattle.std.proofs.Common.{◌≡◌, ◌+◌, ◌*◌, ◌^◌, ◌<◌, ◌%◌}
use Rattle.hdr_draw.specs.Numbers.{IsNearest}
use Rattle.hdr_draw.proofs.number.Decimal.of_fraction.Given as goal

-- the parts are nearest, and fewer than a thousand if they have decimals
abbrev pub invariant-loop-decimals : goal.invariant-loop-decimals
invariant-loop-decimals l =
    0 < l.den → l.num * 10 ^ 9 + 1 < 2 ^ 128
    → IsNearest l.num l.den (10 ^ l.decimals) l.parts
    × (2 * (l.num * 10 ^ l.decimals % l.den) ≡ l.den → l.parts % 2 ≡ 0)
    × (0 < l.decimals → l.parts < 1000)
