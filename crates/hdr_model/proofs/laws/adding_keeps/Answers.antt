use Rattle.hdr_model.proofs.MergingStands.{resolution-merged}
use Rattle.hdr_model.proofs.MergingCorrects.{resolution-merged_corrected}
use Rattle.hdr_model.proofs.PlainAfter.{IsPlain-merged, IsPlain-merged_corrected}
use Rattle.hdr_model.proofs.PlainBounds.{bounds-merged, bounds-merged_corrected, same-bounds}
use Rattle.hdr_model.specs.Merging.{after_add, after_add_correct}
use Rattle.hdr_model.proofs.laws.adding_keeps.Goals as goal

pub returns-clause-merged : goal.returns-clause-merged
returns-clause-merged c = IsPlain-merged

pub returns-clause-merged_classes : goal.returns-clause-merged_classes
returns-clause-merged_classes c = resolution-merged

pub returns-clause-corrected : goal.returns-clause-corrected
returns-clause-corrected c = λ greatest most h s one p q i. IsPlain-merged_corrected greatest most h s i one p q

pub returns-clause-corrected_classes : goal.returns-clause-corrected_classes
returns-clause-corrected_classes c = resolution-merged_corrected

pub returns-clause-merged_bounds : goal.returns-clause-merged_bounds
returns-clause-merged_bounds c = λ greatest h s. same-bounds (after_add greatest h s) h (bounds-merged greatest h s)

pub returns-clause-corrected_bounds : goal.returns-clause-corrected_bounds
returns-clause-corrected_bounds c = λ greatest h s i. same-bounds (after_add_correct greatest h s i) h (bounds-merged_corrected greatest h s i)
