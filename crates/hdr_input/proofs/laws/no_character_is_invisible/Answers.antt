use Rattle.hdr_input.proofs.VisibleTexts.{not_invisible, same_text}
use Rattle.hdr_input.proofs.laws.no_character_is_invisible.Goals as goal

pub returns-clause-shown : goal.returns-clause-shown
returns-clause-shown c = not_invisible

pub returns-clause-same : goal.returns-clause-same
returns-clause-same c = λ text. same_text text
