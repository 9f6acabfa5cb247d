use Rattle.hdr_log.proofs.TextsBase64.{base64_field, base64_decoded}
use Rattle.hdr_log.proofs.TextsBytes.{base64_are_bytes}
use Rattle.hdr_log.proofs.laws.base64_is_read.Goals as goal

pub returns : goal.returns
returns c = record { field = base64_field; decoded = base64_decoded; bytes = base64_are_bytes }
