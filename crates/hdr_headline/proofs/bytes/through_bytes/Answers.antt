use Rattle.std.proofs.Common.{sym}
use Rattle.hdr_headline.proofs.ReadBack.{ReadsBack, BackStands, alike, bytes_are_read, bytes_do_not_fail}
use Rattle.hdr_headline.proofs.bytes.through_bytes.Goals as goal

pub returns-in-Ok-decode_slice-clause-read : goal.returns-in-Ok-decode_slice-clause-read
returns-in-Ok-decode_slice-clause-read g c =
    let law : ReadsBack = record { contents = c.bytes_read_back.ensures.contents; histogram = λ greatest taken h k bytes more plain v2 read. (c.bytes_read_back.ensures.histogram greatest taken h k bytes more plain v2 read).1 } in
    bytes_are_read law _ _ c.args.histogram.now c.in-Ok-decode_slice.copy c.in-Ok.bytes.now c.distinct_values-bins.ensures.plain c.in-Ok.ensures.bytes c.in-Ok-decode_slice.ensures.read

pub returns-in-Ok-decode_slice-clause-alike : goal.returns-in-Ok-decode_slice-clause-alike
returns-in-Ok-decode_slice-clause-alike g c =
    let law : ReadsBack = record { contents = c.bytes_read_back.ensures.contents; histogram = λ greatest taken h k bytes more plain v2 read. (c.bytes_read_back.ensures.histogram greatest taken h k bytes more plain v2 read).1 } in
    let stands : BackStands = record { classes = c.read_back_stands.ensures.classes; samples = c.read_back_stands.ensures.samples; quantiles = c.read_back_stands.ensures.quantiles } in
    alike stands _ c.args.histogram.now c.in-Ok-decode_slice.copy c.distinct_values-bins.ensures.plain
    (bytes_are_read law _ _ c.args.histogram.now c.in-Ok-decode_slice.copy c.in-Ok.bytes.now c.distinct_values-bins.ensures.plain c.in-Ok.ensures.bytes c.in-Ok-decode_slice.ensures.read)

pub unreachable-requires-then-names_defect : goal.unreachable-requires-then-names_defect
unreachable-requires-then-names_defect g c =
    let law : ReadsBack = record { contents = c.bytes_read_back.ensures.contents; histogram = λ greatest taken h k bytes more plain v2 read. (c.bytes_read_back.ensures.histogram greatest taken h k bytes more plain v2 read).1 } in
    bytes_do_not_fail law _ c.args.histogram.now c.in-Ok.bytes.now c.in-Err.error c.distinct_values-bins.ensures.plain c.in-Ok.ensures.bytes c.in-Err.ensures.err (sym c.if-names_defect.ensures)
