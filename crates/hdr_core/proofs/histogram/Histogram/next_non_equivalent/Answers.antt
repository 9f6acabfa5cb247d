use Rattle.std.proofs.Common.{arith}
use Rattle.hdr_base.specs.Classes.{Resolution}
use Rattle.hdr_base.proofs.ClassesLaws.{top-above}
use Rattle.hdr_core.proofs.histogram.Histogram.next_non_equivalent.Goals as goal

pub returns-clause-at_least : goal.returns-clause-at_least
returns-clause-at_least g c =
    let scale : Resolution = c.self.inside.scale in
    omega (arith, c.saturating_add.ensures, c.lowest.ensures.value, c.width.ensures.value, top-above scale c.args.value)
