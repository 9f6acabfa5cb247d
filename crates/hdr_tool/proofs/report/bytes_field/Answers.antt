use Rattle.hdr_tool.proofs.Common.{rules}
use Rattle.hdr_tool.proofs.OutcomesCounts.{none_too_great, one_too_great}
use Rattle.hdr_tool.proofs.report.bytes_field.Goals as goal

pub returns-in-Ok : goal.returns-in-Ok
returns-in-Ok g c = rw (none_too_great c.args.histogram.now c.in-Ok.ensures.ok) (search rules)

pub returns-in-Err-CountNotSerializable : goal.returns-in-Err-CountNotSerializable
returns-in-Err-CountNotSerializable g c =
    rw (one_too_great c.args.histogram.now (rw c.in-Err-CountNotSerializable.field-0-is at c.in-Err-CountNotSerializable.ensures.err)) (search rules)
