use Rattle.std.proofs.Common.{sym, ◌∙◌, arith}
use Rattle.std.proofs.lemmas.Bool.{false≢true}
use Rattle.hdr_counts.proofs.BlocksSums.{number-at}
use Rattle.hdr_core.proofs.EqualityParts.{same-next}
use Rattle.hdr_core.proofs.histogram.equality.same_few.Goals as goal
use Rattle.hdr_core.proofs.histogram.equality.same_few.Goals.{then-as_u64, else-as_u64}

pub loop-i-preserved : goal.loop-i-preserved
loop-i-preserved g c =
    let i = c.loop-i.i in
    let left = c.as_u64.ensures.value ∙ number-at g.T.Counter.number c.args.left.now i c.index-left-i.result (omega arith) c.index-left-i.is in
    let right = c.as_u64-in-loop-i.ensures.value ∙ number-at g.F.Counter.number c.args.right.now i c.index-right-i.result (omega (arith, c.requires)) c.index-right-i.is in
    elim c.if-as_u64.branch [
      | then-as_u64 w ↦ record {
        same = λ e. absurd (false≢true (sym w.same-is ∙ e));
        other = λ _. (i, omega arith, λ e. w.if-as_u64.true (left ∙ e ∙ sym right));
      }
      | else-as_u64 w ↦ record {
        same = λ e. same-next _ _ i (c.loop-i.invariant.same (sym w.same-is ∙ e)) (sym left ∙ w.if-as_u64.false ∙ right);
        other = λ e. c.loop-i.invariant.other (sym w.same-is ∙ e);
      }
    ]
