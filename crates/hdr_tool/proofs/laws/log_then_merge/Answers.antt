use Rattle.hdr_tool.proofs.LogMergesWritten.{log_then_merge}
use Rattle.hdr_tool.proofs.laws.log_then_merge.Goals as goal

pub returns : goal.returns
returns c = log_then_merge (record { bytes = c.bytes_read_back.ensures.bytes; contents = c.bytes_read_back.ensures.contents; histogram = c.bytes_read_back.ensures.histogram; decoded = c.base64_is_read.ensures.decoded; pieces = c.written_is_read.ensures })
