use Rattle.hdr_tool.proofs.LogMergesWritten.{ends_stand}
use Rattle.hdr_tool.proofs.laws.ends_stand.Goals as goal

pub returns : goal.returns
returns c = ends_stand (record { same_bounds = c.calls_stand.ensures.same_bounds; plain = c.calls_stand.ensures.plain; classes = c.calls_stand.ensures.classes; wherever = c.calls_stand.ensures.wherever })
