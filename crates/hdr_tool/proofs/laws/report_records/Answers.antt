use Rattle.hdr_tool.proofs.ReportsRecord.{report_records}
use Rattle.hdr_tool.proofs.laws.report_records.Goals as goal

pub returns : goal.returns
returns c = report_records
