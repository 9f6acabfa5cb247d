-- The longest of some durations and one more.
use Rattle.std.proofs.Common.{◌≡◌, ℕ, ◌≤◌, ◌<◌, ◌+◌, List, [], ◌∷◌, ◌++◌, ◌⊎◌, inl, inr, map, take, get_or, length, sym, ap, subst, ◌∙◌, arith}
use Rattle.std.specs.List.{All, Contains}
use Rattle.std.proofs.lemmas.List.Elements.{All-nil, All-cons, All-append, All-weaker, Contains-append_left, Contains-push}
use Rattle.std.proofs.lemmas.List.{map_more}
use Rattle.hdr_gather.specs.Lines.{IsLongest}

pub longest_of_one : (d : ℕ) → IsLongest (d ∷ []) d
longest_of_one d = (Contains-push [] d, All-cons (λ e. e ≤ d) d [] (omega arith) (All-nil (λ e. e ≤ d)))

-- one more, and the longer of it and the longest before
longest_more : (ds : List ℕ) (longest d new : ℕ) → IsLongest ds longest → longest ≤ new → d ≤ new → (new ≡ longest) ⊎ (new ≡ d) → IsLongest (ds ++ d ∷ []) new
longest_more ds longest d new h low high is = (found is, All-append (λ e. e ≤ new) ds (d ∷ []) before (All-cons (λ e. e ≤ new) d [] high (All-nil (λ e. e ≤ new))))
  where
    before : All (λ e. e ≤ new) ds
    before = All-weaker (λ e. e ≤ longest) (λ e. e ≤ new) (λ e m. omega (arith, low, m)) ds h.1

    found : (new ≡ longest) ⊎ (new ≡ d) → Contains (ds ++ d ∷ []) new
    found (inl e) = subst (Contains (ds ++ d ∷ [])) (sym e) (Contains-append_left ds (d ∷ []) longest h.0)
    found (inr e) = subst (Contains (ds ++ d ∷ [])) (sym e) (Contains-push ds d)

-- the duration of one item more
pub longest_next : {X : Type 0} (f : X → ℕ) (first : ℕ) (xs : List X) (i : ℕ) (x : X) (longest new : ℕ) → i < length xs → x ≡ get_or xs i x → IsLongest (first ∷ map f (take i xs)) longest
    → longest ≤ new → f x ≤ new → (new ≡ longest) ⊎ (new ≡ f x) → IsLongest (first ∷ map f (take (i + 1) xs)) new
longest_next f first xs i x longest new lt is so_far low high one =
    let more : map f (take (i + 1) xs) ≡ map f (take i xs) ++ f x ∷ [] = map_more f xs i x lt ∙ ap (λ y. map f (take i xs) ++ f y ∷ []) (sym is) in
    subst (λ ds. IsLongest (first ∷ ds) new) (sym more) (longest_more (first ∷ map f (take i xs)) longest (f x) new so_far low high one)
