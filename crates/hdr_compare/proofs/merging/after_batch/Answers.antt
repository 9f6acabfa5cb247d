use Rattle.std.proofs.Common.{◌≡◌, ◌++◌, ◌∷◌, [], List, append-nil, append_assoc, ap, sym, subst, ◌∙◌}
use Rattle.hdr_model.specs.Plain.{Plain}
use Rattle.hdr_compare.specs.Parts.{KeepsParts, waiting}
use Rattle.hdr_compare.proofs.Parts.{keeps-behind, keeps-joined}
use Rattle.hdr_compare.proofs.merging.after_batch.Goals as goal

pub returns-clause-kept : goal.returns-clause-kept
returns-clause-kept c rest =
    let pairs = c.args.pairs.now.items in
    let sum = c.in-Some.sum in
    let joined = keeps-joined sum c.args.batch c.add.new.self rest c.add.ensures.same_classes c.in-Ok.ensures.samples in
    let behind = keeps-behind pairs (sum ∷ c.args.batch ∷ rest) (c.add.new.self ∷ rest) joined in
    let before : pairs ++ waiting c.args.earlier ++ c.args.batch ∷ rest ≡ pairs ++ (sum ∷ c.args.batch ∷ rest) =
    ap (λ w. pairs ++ waiting w ++ c.args.batch ∷ rest) c.in-Some.is ∙ append_assoc pairs (sum ∷ []) (c.args.batch ∷ rest) in
    let after : c.push.new.batches.items ++ [] ++ rest ≡ pairs ++ (c.add.new.self ∷ rest) =
    ap (λ (l : List Plain). l ++ rest) (append-nil c.push.new.batches.items ∙ c.in_ok-push.ensures.pushed) ∙ append_assoc pairs (c.add.new.self ∷ []) rest in
    let kept = subst (KeepsParts (pairs ++ (sum ∷ c.args.batch ∷ rest))) (sym after) behind in
    subst (λ (l : List Plain). KeepsParts l (c.push.new.batches.items ++ [] ++ rest)) (sym before) kept
