use Rattle.hdr_draw.proofs.Ascending.{ascends}
use Rattle.hdr_draw.proofs.laws.logarithms_ascend.Goals as goal

pub returns : goal.returns
returns c = ascends
