use Rattle.std.proofs.Common.{arith}
use Rattle.hdr_model.specs.Plain.{resolution}
use Rattle.hdr_base.proofs.ClassesLaws.{top-of-value}
use Rattle.hdr_summary.proofs.bars.end_of.Goals as goal

pub returns : goal.returns
returns c = omega (arith, top-of-value (resolution c.args.histogram.now) c.saturating_add-last.result, c.saturating_add-last.ensures, c.highest_equivalent.ensures)
