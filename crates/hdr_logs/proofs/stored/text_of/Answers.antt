use Rattle.std.proofs.Common.{◌&&◌, true, [], refl, ap}
use Rattle.std.proofs.lemmas.Str.{is_utf8-from_IsUtf8}
use Rattle.hdr_logs.proofs.stored.text_of.Goals as goal

pub returns-in-None-clause-allowed : goal.returns-in-None-clause-allowed
returns-in-None-clause-allowed c = ap (λ b. b && true) (is_utf8-from_IsUtf8 [] ([], (refl, refl)))
