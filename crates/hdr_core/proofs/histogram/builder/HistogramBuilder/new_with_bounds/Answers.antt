use Rattle.std.proofs.Common.{false, ap, arith}
use Rattle.hdr_model.specs.Unfinished.{unfinished_of}
use Rattle.hdr_model.specs.Plain.{Plain}
use Rattle.hdr_model.proofs.PlainKept.{made}
use Rattle.hdr_core.proofs.histogram.builder.HistogramBuilder.new_with_bounds.Goals as goal

pub new-requires-clause-at_most : goal.new-requires-clause-at_most
new-requires-clause-at_most g c = rw (c.block.ensures.value) c.blocks-2.ensures.fits

pub invariant_of-result : goal.invariant_of-result
invariant_of-result g c =
    let a = c.args in
    let bins = made c.in_ok-scale.scale a.low a.high a.sigfig c.blocks-2.result c.block.result false c.in-Ok.counts c.in_ok-scale.ensures.made.0 c.block.ensures.value c.blocks-2.ensures.value c.in-Ok.ensures in
    rw c.fixed-bounds.ensures (record {
      same_scale = c.in_ok-scale.ensures.made.0;
      block = bins.block;
      has_scale = c.in_ok-scale.ensures.made.1.scale;
      high_fits = omega arith;
      wide = c.in_ok-scale.ensures.made.1.wide;
      whole = bins.bins;
    })

pub returns : goal.returns
returns g c =
    let a = c.args in
    let bins = made c.in_ok-scale.scale a.low a.high a.sigfig c.blocks-2.result c.block.result false c.in-Ok.counts c.in_ok-scale.ensures.made.0 c.block.ensures.value c.blocks-2.ensures.value c.in-Ok.ensures in
    rw c.fixed-bounds.ensures (ap (λ (h : Plain). unfinished_of h) bins.empty, c.in_ok-scale.ensures.made.1)
