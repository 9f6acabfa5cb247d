use Rattle.std.proofs.Common.{◌≡◌, ◌∙◌, ◌++◌, ◌∷◌, [], List, map, take, take_all, append_assoc, append-nil, ap, sym, subst, arith}
use Rattle.std.specs.List.{All}
use Rattle.std.proofs.lemmas.Bool.Decides.{nat_tests}
use Rattle.std.proofs.lemmas.List.{take_more}
use Rattle.std.proofs.lemmas.List.Elements.{All-nil, All-push}
use Rattle.hdr_verdict.specs.declared.usual.Blocks.{Blocks}
use Rattle.hdr_verdict.specs.declared.usual.TailValues.{TailValues}
use Rattle.hdr_verdict.specs.Blocks.{AreNoBlocks, AreNoBlocksFor, tails_of, values_of}
use Rattle.hdr_verdict.specs.TagSamples.{width_of_tag}
use Rattle.hdr_verdict.proofs.BlockFacts.{tails-more}
use Rattle.hdr_verdict.proofs.usual_values.blocks_of.Goals as goal
use Rattle.hdr_verdict.proofs.usual_values.blocks_of.Goals.{then-not-has_least+in_ok-push+in_ok-blocks-2, else-not-has_least}

pub loop-tail-init : goal.loop-tail-init
loop-tail-init c =
    let P = AreNoBlocks (width_of_tag c.args.samples.now) c.total-total.result in
    record {
      all = subst (All P) (sym c.new-all.ensures.items) (All-nil P);
      last = subst (λ w. AreNoBlocks w c.total-total.result c.in_ok-blocks.blocks) c.width-width.ensures.width (c.in_ok-blocks.ensures.none c.total-total.result);
      tails = ap (λ l. map (λ (own : TailValues). own.tail) (values_of l) ++ tails_of c.in_ok-blocks.blocks) c.new-all.ensures.items ∙ ap (map (λ (own : TailValues). own.tail)) c.in_ok-blocks.ensures.tails;
    }

pub loop-tail-preserved : goal.loop-tail-preserved
loop-tail-preserved c =
    let f = λ (own : TailValues). own.tail in
    let total = c.total-total.result in
    let W = width_of_tag c.args.samples.now in
    let P = AreNoBlocks W total in
    let tails = c.args.tails.now in
    let i = c.loop-tail.tail-index in
    let tail = c.tail-item.result in
    let before = c.loop-tail.invariant in
    let all = c.if-not-has_least.all.items in
    let last = c.if-not-has_least.blocks in
    let J = λ (l : List Blocks) (b : Blocks). All P l × P b × (b.least ≡ c.least_block-least.result) × (map f (values_of l) ++ tails_of b ≡ take i tails) in
    let olds = c.loop-tail.all.items in
    let old = c.loop-tail.blocks in
    let joined : J all last = elim c.if-not-has_least.branch [
      | then-not-has_least+in_ok-push+in_ok-blocks-2 w ↦ (
          let begun = subst (λ v. AreNoBlocks v total w.in_ok-blocks-2.blocks) c.width-width.ensures.width (w.in_ok-blocks-2.ensures.none total) in
          let same = ap (λ l. map f (values_of (olds ++ old ∷ [])) ++ map f l) w.in_ok-blocks-2.ensures.tails ∙ append-nil (map f (values_of (olds ++ old ∷ []))) ∙ tails-more olds old ∙ before.tails in
          let here : J (olds ++ old ∷ []) w.in_ok-blocks-2.blocks = (All-push P olds old before.all before.last, begun, w.in_ok-blocks-2.ensures.least, same) in
          subst (λ l. J l last) (sym (ap (λ v. v.items) w.all-is ∙ w.in_ok-push.ensures.items)) (subst (J (olds ++ old ∷ [])) (sym w.blocks-is) here))
      | else-not-has_least w ↦ (
          let least : old.least ≡ c.least_block-least.result = grind (arith, nat_tests, w.if-not-has_least.ensures) in
          let here : J olds old = (before.all, before.last, least, before.tails) in
          subst (λ l. J l last) (sym (ap (λ v. v.items) w.all-is)) (subst (J olds) (sym w.blocks-is) here))
    ] in
    let front = take_more tails i tail c.loop-tail-test.true ∙ ap (λ t. take i tails ++ t ∷ []) (sym c.tail-item.is) in
    record {
      all = joined.0;
      last = c.in_ok-add_tail.ensures.none W total (joined.2 ∙ c.least_block-least.ensures) joined.1;
      tails = ap (λ l. map f (values_of all) ++ l) c.in_ok-add_tail.ensures.tails ∙ sym (append_assoc (map f (values_of all)) (tails_of last) (tail ∷ [])) ∙ ap (λ l. l ++ tail ∷ []) joined.3 ∙ sym front;
    }

pub returns : goal.returns
returns c =
    let f = λ (own : TailValues). own.tail in
    let W = width_of_tag c.args.samples.now in
    let last = c.loop-tail.blocks in
    let all = c.loop-tail.all.items in
    let before = c.loop-tail.invariant in
    let P = AreNoBlocks W c.total-total.result in
    let tails = tails-more all last ∙ before.tails ∙ take_all c.loop-tail.tail-index c.args.tails.now c.loop-tail-test.false in
    let whole : AreNoBlocksFor W c.total-total.result c.args.tails.now (all ++ last ∷ []) = (All-push P all last before.all before.last, tails) in
    subst (λ n. AreNoBlocksFor W n c.args.tails.now c.push-2.new.self.items) c.total-total.ensures (subst (AreNoBlocksFor W c.total-total.result c.args.tails.now) (sym c.in_ok-push-2.ensures.items) whole)
