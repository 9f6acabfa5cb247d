use Rattle.hdrhistogram.proofs.V2ReadPlain.{bytes_read, read_is_plain}
use Rattle.hdrhistogram.proofs.laws.bytes_are_read.Goals as goal

pub returns-clause-exists : goal.returns-clause-exists
returns-clause-exists c = bytes_read c.early_end-cut.result c.early_end-cut.ensures

pub returns-clause-plain : goal.returns-clause-plain
returns-clause-plain c = read_is_plain
