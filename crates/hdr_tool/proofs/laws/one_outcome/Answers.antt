use Rattle.hdr_tool.proofs.OutcomesOnce.{one_outcome}
use Rattle.hdr_tool.proofs.laws.one_outcome.Goals as goal

pub returns : goal.returns
returns c = one_outcome (record { bytes = c.bytes_agree.ensures.equal; chosen = c.merging_adds_the_chosen.ensures.only })
