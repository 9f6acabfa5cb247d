use Rattle.std.proofs.Common.{inr, refl}
use Rattle.hdr_c.proofs.decoding.from_other_form.Goals as goal

pub returns-in-None : goal.returns-in-None
returns-in-None c = inr (inr (refl, inr (c.in-Ok.histogram, c.in-None.ensures, inr (c.requires, c.in-Ok.ensures))))
