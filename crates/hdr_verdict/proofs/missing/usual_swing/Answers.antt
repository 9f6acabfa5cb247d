use Rattle.std.proofs.Common.{◌≡◌, ◌/◌, length, get_or, rules, ap, ◌∙◌}
use Rattle.std.proofs.lemmas.List.Sorted.{IsNonDecreasingBy-from_sort, length_permutation}
use Rattle.hdr_model.specs.Quantiles.{sorted}
use Rattle.hdr_verdict.specs.Missing.{usual_swing}
use Rattle.hdr_verdict.proofs.SortedLists.{sorted-is}
use Rattle.hdr_verdict.proofs.missing.usual_swing.Goals as goal

pub returns-in-Some : goal.returns-in-Some
unfolding usual_swing
returns-in-Some c =
    let xs = c.in_ok-changes.changes.items in
    let ys = c.sort.new.self.items in
    let at = sorted-is xs ys (length ys / 2) c.in_ok-sort.ensures.permutation (IsNonDecreasingBy-from_sort (λ x. x) ys c.in_ok-sort.ensures.sorted) in
    let here : c.in-Some.median.now ≡ get_or ys (length ys / 2) 0 = search rules in
    let long : length ys ≡ length xs = length_permutation xs ys c.in_ok-sort.ensures.permutation in
    here ∙ at ∙ ap (λ n. get_or (sorted xs) (n / 2) 0) long ∙ ap (λ zs. get_or (sorted zs) (length zs / 2) 0) c.in_ok-changes.ensures
