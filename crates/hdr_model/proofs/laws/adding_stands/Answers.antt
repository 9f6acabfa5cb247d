use Rattle.hdr_model.proofs.MergingStands.{StandsFor-merged}
use Rattle.hdr_model.proofs.MergingCorrects.{StandsFor-merged_corrected}
use Rattle.hdr_model.proofs.MergingOrder.{max-small, highest-small}
use Rattle.hdr_model.proofs.laws.adding_stands.Goals as goal

pub returns-clause-merged : goal.returns-clause-merged
returns-clause-merged c = λ greatest most h s one p q L b finer S a. StandsFor-merged greatest most h s S L one p q (max-small most s q) a b finer

pub returns-clause-corrected : goal.returns-clause-corrected
returns-clause-corrected c = λ greatest most h s one p q i L b S a. StandsFor-merged_corrected greatest most h s i S L one p q (highest-small most s q) a b
