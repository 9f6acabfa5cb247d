use Rattle.std.proofs.Common.{◌≡◌, ◌∙◌, ◌+◌, ◌++◌, ◌∷◌, [], not, cond, true, false, ap, sym, append-nil}
use Rattle.hdr_view.specs.Order.{is_one_of, with_others}
use Rattle.hdr_view.proofs.TagOrder.{others-more}
use Rattle.hdr_view.proofs.order.with_others.Goals.{then-not-contains+in_ok-push, else-not-contains}
use Rattle.hdr_view.proofs.order.with_others.Goals as goal

pub loop-tag-preserved : goal.loop-tag-preserved
loop-tag-preserved c =
    let first = c.args.first.now in
    let n = c.loop-tag.tag-counter in
    let more = others-more n first in
    elim c.if-not-contains.branch [
      | then-not-contains+in_ok-push w ↦ (
          let other : is_one_of first n ≡ false = sym c.contains.ensures.value ∙ w.if-not-contains.true in
          ap (λ o. o.items) w.order-is ∙ w.in_ok-push.ensures ∙ ap (λ l. l ++ n ∷ []) c.loop-tag.invariant
          ∙ sym (more ∙ ap (λ b. with_others n first ++ cond (not b) (n ∷ []) []) other))
      | else-not-contains w ↦ (
          let one : is_one_of first n ≡ true = sym c.contains.ensures.value ∙ w.if-not-contains.false in
          ap (λ o. o.items) w.order-is ∙ c.loop-tag.invariant ∙ sym (more ∙ ap (λ b. with_others n first ++ cond (not b) (n ∷ []) []) one ∙ append-nil (with_others n first)))
    ]
