use Rattle.hdr_verdict.proofs.CountsAbove.{joined-scale}
use Rattle.hdr_verdict.proofs.width.Width.join.Goals as goal

pub returns-clause-scale : goal.returns-clause-scale
returns-clause-scale c = λ one two.
    rw (c.max.ensures, c.min.ensures) (joined-scale c.args.self.low c.args.self.sigfig c.args.bounds.low c.args.bounds.sigfig one two)
