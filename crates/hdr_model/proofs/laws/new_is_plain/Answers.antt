use Rattle.hdr_model.proofs.PlainKept.{IsPlain-empty}
use Rattle.hdr_model.proofs.laws.new_is_plain.Goals as goal

pub returns : goal.returns
returns c = λ greatest low high sigfig auto_resize bounds fits. IsPlain-empty greatest low high sigfig auto_resize bounds.scale fits bounds.wide
