use Rattle.std.proofs.Common.{inr, refl}
use Rattle.hdr_c.proofs.Forms.{memory_status}
use Rattle.hdr_c.proofs.v2_bytes.dkap_decode.Goals as goal

pub returns-in_default : goal.returns-in_default
returns-in_default c = inr (memory_status c.args.limit c.in-Ok.length c.args.bytes.now c.in-Ok.histogram c.in-Ok.ensures, refl, c.in_default.ensures)
