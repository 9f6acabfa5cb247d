use Rattle.hdr_headline.proofs.ReadBack.{ReadsBack, BackStands, alike, found, none_first, field_is_read, not_not_base64, not_decode}
use Rattle.hdr_headline.proofs.line.through_line.Goals as goal

pub unreachable-requires : goal.unreachable-requires
unreachable-requires g c =
    none_first c.written_is_read.ensures c.args.histogram.now _ _ _ _ c.in-Ok.line.items c.deref.result.now c.in-Ok.ensures.line c.deref.ensures.value c.in_default.ensures

pub returns-in-Ok-decode_field-clause-read : goal.returns-in-Ok-decode_field-clause-read
returns-in-Ok-decode_field-clause-read g c =
    let law : ReadsBack = record { contents = c.bytes_read_back.ensures.contents; histogram = λ greatest taken h k bytes more plain v2 read. (c.bytes_read_back.ensures.histogram greatest taken h k bytes more plain v2 read).1 } in
    field_is_read law c.base64_is_read.ensures.decoded _ c.args.histogram.now c.in-Ok-decode_field.copy c.in-Some.field.now
    (found c.written_is_read.ensures _ c.args.histogram.now _ _ _ _ c.in-Ok.line.items c.deref.result.now c.in-Some.field.now c.distinct_values-bins.ensures.plain c.in-Ok.ensures.line c.deref.ensures.value c.in-Some.ensures)
    c.in-Ok-decode_field.ensures.read

pub returns-in-Ok-decode_field-clause-alike : goal.returns-in-Ok-decode_field-clause-alike
returns-in-Ok-decode_field-clause-alike g c =
    let stands : BackStands = record { classes = c.read_back_stands.ensures.classes; samples = c.read_back_stands.ensures.samples; quantiles = c.read_back_stands.ensures.quantiles } in
    let law : ReadsBack = record { contents = c.bytes_read_back.ensures.contents; histogram = λ greatest taken h k bytes more plain v2 read. (c.bytes_read_back.ensures.histogram greatest taken h k bytes more plain v2 read).1 } in
    alike stands _ c.args.histogram.now c.in-Ok-decode_field.copy c.distinct_values-bins.ensures.plain
    (field_is_read law c.base64_is_read.ensures.decoded _ c.args.histogram.now c.in-Ok-decode_field.copy c.in-Some.field.now
    (found c.written_is_read.ensures _ c.args.histogram.now _ _ _ _ c.in-Ok.line.items c.deref.result.now c.in-Some.field.now c.distinct_values-bins.ensures.plain c.in-Ok.ensures.line c.deref.ensures.value c.in-Some.ensures)
    c.in-Ok-decode_field.ensures.read)

pub unreachable-requires-in-Err-NotBase64 : goal.unreachable-requires-in-Err-NotBase64
unreachable-requires-in-Err-NotBase64 g c =
    not_not_base64 c.base64_is_read.ensures.decoded _ c.args.histogram.now c.in-Some.field.now c.in-Err-NotBase64.field-0
    (found c.written_is_read.ensures _ c.args.histogram.now _ _ _ _ c.in-Ok.line.items c.deref.result.now c.in-Some.field.now c.distinct_values-bins.ensures.plain c.in-Ok.ensures.line c.deref.ensures.value c.in-Some.ensures)
    c.in-Err-NotBase64.ensures.read c.in-Err-NotBase64.field-0-is

pub unreachable-requires-in-Err-Decode : goal.unreachable-requires-in-Err-Decode
unreachable-requires-in-Err-Decode g c =
    let law : ReadsBack = record { contents = c.bytes_read_back.ensures.contents; histogram = λ greatest taken h k bytes more plain v2 read. (c.bytes_read_back.ensures.histogram greatest taken h k bytes more plain v2 read).1 } in
    not_decode law c.base64_is_read.ensures.decoded _ c.args.histogram.now c.in-Some.field.now c.in-Err-Decode.field-0 c.in-Err-Decode.field-0-0
    (found c.written_is_read.ensures _ c.args.histogram.now _ _ _ _ c.in-Ok.line.items c.deref.result.now c.in-Some.field.now c.distinct_values-bins.ensures.plain c.in-Ok.ensures.line c.deref.ensures.value c.in-Some.ensures)
    c.in-Err-Decode.ensures.read c.in-Err-Decode.field-0-is
