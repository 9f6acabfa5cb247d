use Rattle.hdr_model.proofs.EqualityFacts.{same-parts, parts-same, same-itself, same-turned, same-through}
use Rattle.hdr_model.proofs.laws.equality.Goals as goal

pub returns-clause-meaning : goal.returns-clause-meaning
returns-clause-meaning c = λ h k. (same-parts h k, parts-same h k)

pub returns-clause-reflexive : goal.returns-clause-reflexive
returns-clause-reflexive c = λ h. same-itself h

pub returns-clause-symmetric : goal.returns-clause-symmetric
returns-clause-symmetric c = λ h k. same-turned h k

pub returns-clause-transitive : goal.returns-clause-transitive
returns-clause-transitive c = λ h k j. same-through h k j
