use Rattle.std.proofs.Common.{ap, arith}
use Rattle.hdrhistogram.specs.Defects.{unless}
use Rattle.hdrhistogram.specs.HeaderView.{header_of}
use Rattle.hdrhistogram.proofs.V2ReadHistogram.{bounds-yes, defect-none}
use Rattle.hdrhistogram.proofs.V2ReadPlain.{bounds_from}
use Rattle.hdrhistogram.proofs.ClassesReadFacts.{bins-are, bins-few, no-bounds}
use Rattle.hdrhistogram.proofs.serialization.class_decoder.scale_and_bins.Goals as goal

pub returns-then-header-clause-bounds : goal.returns-then-header-clause-bounds
returns-then-header-clause-bounds c =
    let h = c.args.header in
    ap (λ o. unless o 0) (no-bounds (header_of h) (λ e. (let b = bounds_from h.low h.high h.sigfig e in omega (arith, b.low_fits, c.if-header.true))))

pub returns-then-header-2-clause-bounds : goal.returns-then-header-2-clause-bounds
returns-then-header-2-clause-bounds c =
    let h = c.args.header in
    ap (λ o. unless o 0) (no-bounds (header_of h) (λ e. (let b = bounds_from h.low h.high h.sigfig e in omega (arith, b.wide, c.if-header-2.true))))

pub returns-in_default-clause-bounds : goal.returns-in_default-clause-bounds
returns-in_default-clause-bounds c =
    let h = c.args.header in
    ap (λ o. unless o 0) (no-bounds (header_of h) (λ e. c.in_default.ensures.scale (bounds_from h.low h.high h.sigfig e).scale))

pub returns-clause-bounds : goal.returns-clause-bounds
returns-clause-bounds c =
    let h = c.args.header in
    defect-none (header_of h) (bounds-yes h.low h.high h.sigfig (record { low_fits = omega (arith, c.if-header.false); wide = omega (arith, c.if-header-2.false); scale = c.in-Some.ensures.scale.0 }))

pub returns-clause-bins : goal.returns-clause-bins
returns-clause-bins c =
    let h = c.args.header in
    bins-are c.in-Some.scale h.low h.high h.sigfig c.bin-bins.result c.reach.result c.in-Some.ensures.scale.1 c.bin-bins.ensures.value c.reach.ensures.value

pub returns-clause-few : goal.returns-clause-few
returns-clause-few c =
    let h = c.args.header in
    bins-few c.in-Some.scale h.low h.high h.sigfig c.bin-bins.result c.reach.result c.in-Some.ensures.scale.0 (omega arith) c.in-Some.ensures.scale.1 c.bin-bins.ensures.value c.reach.ensures.value
