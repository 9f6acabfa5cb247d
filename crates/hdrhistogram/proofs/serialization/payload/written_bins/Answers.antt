use Rattle.std.proofs.Common.{arith, ap, ◌+◌, ◌≡◌, ◌∙◌, unwrap_or}
use Rattle.hdrhistogram.proofs.serialization.payload.written_bins.Goals as goal

pub returns-in-Some-clause-value : goal.returns-in-Some-clause-value
returns-in-Some-clause-value g c =
    let h = c.args.h.now in
    let is : c.in-Some.bin ≡ unwrap_or h.top_mark 0 =
    c.in-Some.ensures.value.1 ∙ c.max.ensures.bin in
    ap (λ n. n + 1) is

pub returns-in-Some-clause-at_most : goal.returns-in-Some-clause-at_most
returns-in-Some-clause-at_most g c =
    omega (arith, c.distinct_values-bins.ensures.at_most, c.distinct_values-bins.ensures.value, c.in-Some.ensures.within)

pub returns-in-None-clause-value : goal.returns-in-None-clause-value
returns-in-None-clause-value g c =
    let h = c.args.h.now in
    absurd (c.in-None.ensures.value c.max.ensures.within)
