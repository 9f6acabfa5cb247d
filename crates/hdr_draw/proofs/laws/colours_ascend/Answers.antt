use Rattle.hdr_draw.proofs.Ascending.{colours_ascend}
use Rattle.hdr_draw.proofs.laws.colours_ascend.Goals as goal

pub returns : goal.returns
returns c = colours_ascend
