use Rattle.hdr_c.proofs.Forms.{v2_is_plain}
use Rattle.hdr_c.proofs.compressing.compressed_v2.Goals as goal

pub compressed_bytes-requires : goal.compressed_bytes-requires
compressed_bytes-requires c = v2_is_plain _ _ c.in-Ok.ensures.bytes
