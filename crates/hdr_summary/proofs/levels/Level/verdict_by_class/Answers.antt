use Rattle.std.proofs.Common.{◌<◌, arith}
use Rattle.hdr_summary.proofs.TrueVerdicts.{verdict-by-class}
use Rattle.hdr_summary.proofs.levels.Level.verdict_by_class.Goals as goal

pub returns : goal.returns
returns c = λ d L counted mean has some few. (
    let level = c.args.self.now in
    let counts = c.args.counts.now.counts in
    let samples : 0 < counts.total = omega (arith, has.counts.total) in
    verdict-by-class counts level.measure level.side level.number d L c.verdict.result has.counts few (c.verdict.ensures.samples counted samples)
    )
