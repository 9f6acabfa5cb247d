use Rattle.hdr_core.specs.Shown.{plain_of}
use Rattle.hdr_core.proofs.IteratingFacts.{AreBins-binned}
use Rattle.hdr_core.proofs.histogram.iterating.HistogramBinned.binned.Goals as goal

pub new-requires : goal.new-requires
new-requires g c =
    rw (c.self.invariant.scale, c.unwrap_or-last.ensures, c.top.ensures) (AreBins-binned g.T.Counter.greatest (plain_of c.self.inside) c.self.invariant.plain)

pub returns-clause-plain : goal.returns-clause-plain
returns-clause-plain g c =
    rw (c.new.ensures, c.self.invariant.scale, c.unwrap_or-last.ensures, c.top.ensures) (AreBins-binned g.T.Counter.greatest (plain_of c.self.inside) c.self.invariant.plain)
