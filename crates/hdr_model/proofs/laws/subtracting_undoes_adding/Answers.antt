use Rattle.hdr_model.proofs.MergingOrder.{undoes, undoes-other, undone-total}
use Rattle.hdr_model.proofs.MergingStands.{resolution-merged}
use Rattle.hdr_model.proofs.laws.subtracting_undoes_adding.Goals as goal

pub returns-clause-numbers : goal.returns-clause-numbers
returns-clause-numbers c = λ greatest h s one p q same free d. undoes greatest h s d one p q same (resolution-merged greatest greatest h s q) free

pub returns-clause-total : goal.returns-clause-total
returns-clause-total c = λ greatest h s one p q same free d x exact.
    undone-total h d x.total (undoes greatest h s d one p q same (resolution-merged greatest greatest h s q) free x) p.total_fits exact

pub returns-clause-other : goal.returns-clause-other
returns-clause-other c = λ greatest h s one p q same free d. undoes-other greatest h s d one p q same (resolution-merged greatest greatest h s q) free

pub returns-clause-other_total : goal.returns-clause-other_total
returns-clause-other_total c = λ greatest h s one p q same free d x exact.
    undone-total s d x.total (undoes-other greatest h s d one p q same (resolution-merged greatest greatest h s q) free x) q.total_fits exact
