-- The parts of a limit's text.
use Rattle.std.proofs.Common.{ℕ, ◌<◌, List, ◌++◌, codes, length, length-append, arith, ap}
use Rattle.hdr_runs.specs.Limits.{IsLimitText}

-- the amount is shorter than the text
pub amount_is_short : (text percentile amount : List ℕ) → IsLimitText text percentile amount → length amount < length text
amount_is_short text percentile amount is =
    let tail = amount ++ codes "%" in
    let e = ap length is.whole in
    let e1 = length-append percentile (codes ">+" ++ tail) in
    let e2 = length-append (codes ">+") tail in
    let e3 = length-append amount (codes "%") in
    grind (arith, e, e1, e2, e3)
