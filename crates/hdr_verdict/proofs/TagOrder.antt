-- The orders of intervals and of tags.
use Rattle.std.proofs.Common.{◌≡◌, ◌<◌, ◌+◌, List, [], ◌∷◌, length, map, get_or, ap, ◌∙◌, arith}
use Rattle.std.specs.Cmp.{IsTotalOrder}
use Rattle.std.specs.Cmp.Lexicographic.{nat_list_cmp_total}
use Rattle.std.specs.List.Sorted.{IsSorted, IsSortedBy}
use Rattle.std.specs.Ordering.{is_lt}
use Rattle.std.specs.declared.cmp.Ordering.{Ordering}
use Rattle.std.proofs.lemmas.Cmp.{on_total, then_total, nat_cmp_total, back_total}
use Rattle.std.proofs.lemmas.List.{length-map, get_or-map}
use Rattle.hdr_logs.specs.Stored.{end_of}
use Rattle.hdr_logs.specs.declared.stored.StoredInterval.{StoredInterval}
use Rattle.hdr_verdict.specs.Tags.{interval_cmp, name_of, tag_cmp, total_of}
use Rattle.hdr_verdict.specs.declared.tags.Tag.{Tag}

pub interval_total : IsTotalOrder interval_cmp
interval_total = then_total (on_total name_of nat_list_cmp_total) (then_total (on_total (λ (i : StoredInterval). i.start) nat_cmp_total) (on_total end_of nat_cmp_total))

pub tag_total : IsTotalOrder tag_cmp
tag_total = then_total (on_total total_of (back_total nat_cmp_total)) (on_total (λ (t : Tag). t.name.now) nat_list_cmp_total)

-- views are sorted as the values are
pub sorted-views : {X Y : Type 0} (cmp : Y → Y → Ordering) (view : X → Y) (xs : List X) → IsSortedBy (λ x y. is_lt (cmp (view x) (view y))) xs → IsSorted cmp (map view xs)
sorted-views cmp view [] sorted = λ k d l m. absurd (omega (arith, m))
sorted-views cmp view (x ∷ xs) sorted = λ k d l m.
    let inside : k + 1 < length (x ∷ xs) = omega (arith, m, length-map (x ∷ xs) view) in
    let one : get_or (map view (x ∷ xs)) (k + 1) d ≡ view (get_or (x ∷ xs) (k + 1) x) = get_or-map view (x ∷ xs) (k + 1) x d inside in
    let two : get_or (map view (x ∷ xs)) k d ≡ view (get_or (x ∷ xs) k x) = get_or-map view (x ∷ xs) k x d (omega arith) in
    ap (λ y. is_lt (cmp y (get_or (map view (x ∷ xs)) k d))) one
    ∙ ap (λ y. is_lt (cmp (view (get_or (x ∷ xs) (k + 1) x)) y)) two
    ∙ sorted k x l inside
