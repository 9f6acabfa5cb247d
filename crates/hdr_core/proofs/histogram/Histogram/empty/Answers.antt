use Rattle.std.proofs.Common.{arith}
use Rattle.hdr_model.proofs.PlainKept.{IsPlain-empty, made}
use Rattle.hdr_core.proofs.histogram.Histogram.empty.Goals as goal

pub new-requires-clause-at_most : goal.new-requires-clause-at_most
new-requires-clause-at_most g c = rw (c.block.ensures.value) c.blocks-2.ensures.fits

pub invariant_of-result : goal.invariant_of-result
invariant_of-result g c =
    let a = c.args.bounds in
    let bins = made c.args.scale a.low a.high a.sigfig c.blocks-2.result c.block.result a.auto_resize c.in-Ok.counts c.requires.scale c.block.ensures.value c.blocks-2.ensures.value c.in-Ok.ensures in
    record {
      scale = c.requires.scale;
      block = bins.block;
      plain = rw (c.none.ensures, bins.empty) (IsPlain-empty g.T.Counter.greatest a.low a.high a.sigfig a.auto_resize c.requires.bounds.scale (omega arith) c.requires.bounds.wide);
    }

pub returns : goal.returns
returns g c =
    let a = c.args.bounds in
    let bins = made c.args.scale a.low a.high a.sigfig c.blocks-2.result c.block.result a.auto_resize c.in-Ok.counts c.requires.scale c.block.ensures.value c.blocks-2.ensures.value c.in-Ok.ensures in
    rw c.none.ensures bins.empty
