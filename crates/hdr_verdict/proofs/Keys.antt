-- The order of episodes and incidents.
use Rattle.std.proofs.Common.{◌≡◌, ◌<◌, ◌+◌, List, [], ◌∷◌, length, map, get_or, ap, ◌∙◌, arith}
use Rattle.std.specs.Ordering.{is_lt}
use Rattle.std.specs.Cmp.{IsTotalOrder}
use Rattle.std.specs.List.Sorted.{IsSortedBy}
use Rattle.std.proofs.lemmas.Cmp.{on_total, then_total, nat_cmp_total, back_total}
use Rattle.std.proofs.lemmas.List.{length-map, get_or-map}
use Rattle.hdr_verdict.specs.declared.order.Key.{Key}
use Rattle.hdr_verdict.specs.Incidents.{key_cmp}

-- the order of keys is total
pub key_total : IsTotalOrder key_cmp
key_total = then_total (on_total (λ (k : Key). k.weight) (back_total nat_cmp_total)) (then_total (on_total (λ (k : Key). k.start) nat_cmp_total) (on_total (λ (k : Key). k.tag) nat_cmp_total))

-- views are sorted as the values are
pub sorted-map : {X Y : Type 0} (view : X → Y) (key : Y → Key) (xs : List X) → IsSortedBy (λ x y. is_lt (key_cmp (key (view x)) (key (view y)))) xs → IsSortedBy (λ x y. is_lt (key_cmp (key x) (key y))) (map view xs)
sorted-map view key [] sorted = λ k d l m. absurd (omega (arith, m))
sorted-map view key (x ∷ xs) sorted = λ k d l m.
    let inside : k + 1 < length (x ∷ xs) = omega (arith, m, length-map (x ∷ xs) view) in
    let one : get_or (map view (x ∷ xs)) (k + 1) d ≡ view (get_or (x ∷ xs) (k + 1) x) = get_or-map view (x ∷ xs) (k + 1) x d inside in
    let two : get_or (map view (x ∷ xs)) k d ≡ view (get_or (x ∷ xs) k x) = get_or-map view (x ∷ xs) k x d (omega arith) in
    ap (λ y. is_lt (key_cmp (key y) (key (get_or (map view (x ∷ xs)) k d)))) one
    ∙ ap (λ y. is_lt (key_cmp (key (view (get_or (x ∷ xs) (k + 1) x))) (key y))) two
    ∙ sorted k x l inside
