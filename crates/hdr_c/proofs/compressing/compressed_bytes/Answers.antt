use Rattle.std.proofs.Common.{ℕ, List, subst}
use Rattle.hdr_convert.specs.Converted.{IsCompressedOf}
use Rattle.hdr_c.proofs.compressing.compressed_bytes.Goals as goal

pub returns-in-Ok-compressed : goal.returns-in-Ok-compressed
returns-in-Ok-compressed c = subst (λ (xs : List ℕ). IsCompressedOf xs c.in-Ok-compressed.bytes.items) c.in-Ok.ensures.items c.in-Ok-compressed.ensures.holds
