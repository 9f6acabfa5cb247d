use Rattle.std.proofs.Common.{arith}
use Rattle.hdr_model.proofs.MergingCopies.{high-in, own-bounds}
use Rattle.hdr_core.proofs.histogram.Histogram.high.Goals as goal

pub returns-clause-in_bins : goal.returns-clause-in_bins
returns-clause-in_bins g c = high-in c.args.self.now

pub returns-clause-wide : goal.returns-clause-wide
returns-clause-wide g c =
    let h = c.args.self.now in
    let plain = rw c.self.view_is at c.self.invariant.plain in
    omega (arith, (own-bounds g.T.Counter.greatest h plain).wide)

pub returns-clause-bounds : goal.returns-clause-bounds
returns-clause-bounds g c = own-bounds g.T.Counter.greatest c.args.self.now (rw c.self.view_is at c.self.invariant.plain)
