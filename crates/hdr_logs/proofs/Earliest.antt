-- The earliest of some times, and of one more.
use Rattle.std.proofs.Common.{◌≡◌, ℕ, ◌≤◌, ◌<◌, ◌+◌, List, [], ◌∷◌, ◌++◌, ◌⊎◌, inl, inr, map, take, get_or, length, refl, sym, ap, subst, ◌∙◌, arith}
use Rattle.std.specs.List.{All, Contains}
use Rattle.std.proofs.lemmas.List.Elements.{All-nil, All-cons, All-append, All-weaker, Contains-append_left, Contains-push}
use Rattle.std.proofs.lemmas.List.{map_more}
use Rattle.hdr_logs.specs.Aligned.{IsEarliest}

pub earliest_of_one : (t : ℕ) → IsEarliest (t ∷ []) t
earliest_of_one t = (Contains-push [] t, All-cons (λ s. t ≤ s) t [] (omega arith) (All-nil (λ s. t ≤ s)))

-- one more, and the earlier of it and the earliest before
earliest_more : (ts : List ℕ) (earliest t new : ℕ) → IsEarliest ts earliest → new ≤ earliest → new ≤ t → (new ≡ earliest) ⊎ (new ≡ t) → IsEarliest (ts ++ t ∷ []) new
earliest_more ts earliest t new h low high is = (found is, All-append (λ s. new ≤ s) ts (t ∷ []) before (All-cons (λ s. new ≤ s) t [] high (All-nil (λ s. new ≤ s))))
  where
    before : All (λ s. new ≤ s) ts
    before = All-weaker (λ s. earliest ≤ s) (λ s. new ≤ s) (λ s m. omega (arith, low, m)) ts h.1

    found : (new ≡ earliest) ⊎ (new ≡ t) → Contains (ts ++ t ∷ []) new
    found (inl e) = subst (Contains (ts ++ t ∷ [])) (sym e) (Contains-append_left ts (t ∷ []) earliest h.0)
    found (inr e) = subst (Contains (ts ++ t ∷ [])) (sym e) (Contains-push ts t)

-- the time of one item more
pub earliest_next : {X : Type 0} (f : X → ℕ) (first : ℕ) (xs : List X) (i : ℕ) (x : X) (earliest new : ℕ) → i < length xs → x ≡ get_or xs i x → IsEarliest (first ∷ map f (take i xs)) earliest
    → new ≤ earliest → new ≤ f x → (new ≡ earliest) ⊎ (new ≡ f x) → IsEarliest (first ∷ map f (take (i + 1) xs)) new
earliest_next f first xs i x earliest new lt is so_far low high one =
    let more : map f (take (i + 1) xs) ≡ map f (take i xs) ++ f x ∷ [] = map_more f xs i x lt ∙ ap (λ y. map f (take i xs) ++ f y ∷ []) (sym is) in
    subst (λ ts. IsEarliest (first ∷ ts) new) (sym more) (earliest_more (first ∷ map f (take i xs)) earliest (f x) new so_far low high one)

-- a list that is mapped twice
pub map_twice : {A B C : Type 0} (g : B → C) (f : A → B) (xs : List A) → map (λ x. g (f x)) xs ≡ map g (map f xs)
map_twice g f [] = refl
map_twice g f (x ∷ xs) = ap (λ l. g (f x) ∷ l) (map_twice g f xs)
