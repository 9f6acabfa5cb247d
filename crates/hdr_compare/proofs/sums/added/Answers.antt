use Rattle.std.proofs.Common.{◌≡◌, ◌+◌, ◌^◌, ◌<◌, ◌++◌, ◌∷◌, length, drop, arith, append_assoc, ap, sym, subst, ◌∙◌}
use Rattle.std.proofs.lemmas.List.{drop_more, length-append}
use Rattle.hdr_base.specs.Classes.{IsFiner}
use Rattle.hdr_model.specs.Plain.{Plain, resolution}
use Rattle.hdr_compare.specs.Parts.{AreParts}
use Rattle.hdr_compare.proofs.Parts.{fits-of}
use Rattle.hdr_compare.proofs.sums.added.Goals as goal

pub loop-batch-preserved : goal.loop-batch-preserved
loop-batch-preserved c =
    let batches = c.args.batches.now in
    let i = c.loop-batch.batch-index in
    let sum = c.loop-batch.sum in
    let batch = c.batch-item.result in
    let kept = c.loop-batch.invariant in (
      c.add.ensures.same_classes ∙ kept.0,
      λ stands finer S few are.
          let before = kept.1 stands finer S few are in
          let done = before.0 in
          let next : drop i batches ≡ batch ∷ drop (i + 1) batches = drop_more batches i batch c.loop-batch-test.true ∙ ap (λ (b : Plain). b ∷ drop (i + 1) batches) (sym c.batch-item.is) in
          let parts = subst (AreParts before.1) next before.4 in
          let first = parts.1 in
          let whole : S ≡ (done ++ first.first) ++ parts.0 = before.2 ∙ ap (λ rest. done ++ rest) first.whole ∙ sym (append_assoc done first.first parts.0) in
          let small : length (done ++ first.first) < 2 ^ 64 = omega (arith, few, ap length whole, length-append (done ++ first.first) parts.0) in
          let item : IsFiner (resolution batch) (resolution c.args.sum) = subst (λ (b : Plain). IsFiner (resolution b) (resolution c.args.sum)) (sym c.batch-item.is) (finer i batch c.loop-batch-test.true) in
          let own = subst (IsFiner (resolution batch)) (sym kept.0) item in
          (done ++ first.first, parts.0, whole, c.in-Ok.ensures.samples first.first first.stands own done before.3 (fits-of (resolution sum) (done ++ first.first) small), parts.2),
    )
