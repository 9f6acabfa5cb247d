-- Times and tags, compared.
use Rattle.std.proofs.Common.{◌≡◌, ◌≢◌, ℕ, ◌<◌, ◌+◌, false, List, [], ◌∷◌, length, map, get_or, refl, sym, ap, ◌∙◌, arith}
use Rattle.std.specs.List.Sorted.{IsSortedBy}
use Rattle.std.proofs.lemmas.List.{length-map, get_or-map}
use Rattle.std.proofs.lemmas.Bool.{false≢true}
use Rattle.std.specs.declared.cmp.Ordering.{Ordering}
use Rattle.std.specs.declared.cmp.Ordering.TheVariants.{Less, Equal, Greater}
use Rattle.std.specs.Ordering.{nat_cmp, ordering_then, ordering_reverse, is_lt, is_eq}
use Rattle.std.specs.Cmp.{IsTotalOrder}
use Rattle.std.proofs.lemmas.Cmp.{ranked, on_total, then_total, nat_cmp_total, nat_list_cmp_total, alike_right}
use Rattle.std.specs.Cmp.Lexicographic.{slice_cmp, same_text, texts_ties}
use Rattle.hdr_logs.specs.Stored.{Stored}
use Rattle.hdr_gather.specs.Keys.{key_of, key_cmp, IsBefore, AreSorted}

-- the order of keys is total
pub key_total : IsTotalOrder key_cmp
key_total = then_total (on_total (λ k. k.0) nat_cmp_total) (on_total (λ k. k.1) nat_list_cmp_total)

key_equal : (k l : ℕ × List ℕ) → key_cmp k l ≡ Equal → k ≡ l
key_equal k l e = by_cases (nat_cmp k.0 l.0) (slice_cmp nat_cmp k.1 l.1) refl refl e
  where
    by_cases : (r s : Ordering) → r ≡ nat_cmp k.0 l.0 → s ≡ slice_cmp nat_cmp k.1 l.1 → ordering_then r s ≡ Equal → k ≡ l
    by_cases Less s p q e = absurd (false≢true (ap is_eq e))
    by_cases Greater s p q e = absurd (false≢true (ap is_eq e))
    by_cases Equal Less p q e = absurd (false≢true (ap is_eq e))
    by_cases Equal Greater p q e = absurd (false≢true (ap is_eq e))
    by_cases Equal Equal p q e = λ i. (ranked k.0 l.0 Equal p i, same_text k.1 l.1 (sym (texts_ties k.1 l.1 ∙ ap is_eq (sym q))) i)

-- a key that is at most another, which is at most a third but not the first, is less than the third
pub less_past : (x y z : ℕ × List ℕ) → is_lt (key_cmp y x) ≡ false → is_lt (key_cmp z y) ≡ false → y ≢ x → key_cmp x z ≡ Less
less_past x y z low high other = second (key_cmp y z) refl (first (key_cmp x y) refl)
  where
    first : (r : Ordering) → key_cmp x y ≡ r → key_cmp x y ≡ Less
    first Less p = p
    first Equal p = absurd (other (sym (key_equal x y p)))
    first Greater p = absurd (false≢true (sym low ∙ ap is_lt (key_total.antisymm y x ∙ ap ordering_reverse p)))

    second : (r : Ordering) → key_cmp y z ≡ r → key_cmp x y ≡ Less → key_cmp x z ≡ Less
    second Less p l = key_total.trans x y z l p
    second Equal p l = sym (alike_right key_total y z x p) ∙ l
    second Greater p l = absurd (false≢true (sym high ∙ ap is_lt (key_total.antisymm z y ∙ ap ordering_reverse p)))

earlier : (a b : ℕ) → a < b → nat_cmp a b ≡ Less
earlier a b l = by_cases (nat_cmp a b) refl
  where
    by_cases : (r : Ordering) → r ≡ nat_cmp a b → nat_cmp a b ≡ Less
    by_cases Less p = sym p
    by_cases Equal p = let same : a ≡ b = ranked a b Equal p in absurd (omega (arith, l, same))
    by_cases Greater p = let later : b < a = ranked a b Greater p in absurd (omega (arith, l, later))

-- an earlier time comes before, with any tag
pub before_earlier : (p q : Stored) → p.start < q.start → IsBefore p q
before_earlier p q l = ap (λ o. ordering_then o (slice_cmp nat_cmp p.tag q.tag)) (earlier p.start q.start l)

-- items are sorted by the intervals that they hold
pub sorted_map : {X : Type 0} (f : X → Stored) (xs : List X) → IsSortedBy (λ x y. is_lt (key_cmp (key_of (f x)) (key_of (f y)))) xs → AreSorted (map f xs)
sorted_map f [] sorted = λ k d l m. absurd (omega (arith, m))
sorted_map f (x ∷ xs) sorted = λ k d l m.
    let inside : k + 1 < length (x ∷ xs) = omega (arith, m, length-map (x ∷ xs) f) in
    let one : get_or (map f (x ∷ xs)) (k + 1) d ≡ f (get_or (x ∷ xs) (k + 1) x) = get_or-map f (x ∷ xs) (k + 1) x d inside in
    let other : get_or (map f (x ∷ xs)) k d ≡ f (get_or (x ∷ xs) k x) = get_or-map f (x ∷ xs) k x d (omega (arith, inside)) in
    ap (λ i. is_lt (key_cmp (key_of i) (key_of (get_or (map f (x ∷ xs)) k d)))) one ∙ ap (λ i. is_lt (key_cmp (key_of (f (get_or (x ∷ xs) (k + 1) x))) (key_of i))) other ∙ sorted k x l inside
