use Rattle.hdr_logs.proofs.UnitLines.{read_back}
use Rattle.hdr_logs.proofs.laws.units_read_back.Goals as goal

pub returns : goal.returns
returns c = read_back
