-- Parts of lists of which all is so, and lists that are mapped twice.
use Rattle.std.proofs.Common.{◌≡◌, ℕ, suc, ◌+◌, ◌<◌, ◌↔◌, List, [], ◌∷◌, ◌++◌, length, map, take, get_or, refl, sym, ap, subst, ◌∙◌, arith}
use Rattle.std.specs.List.{All}
use Rattle.std.proofs.Math.Seq.{take-suc}
use Rattle.std.proofs.lemmas.List.Elements.{All-append, All-cons, All-head, All-nil, All-tail}

module _ {X : Type 0} (P : X → Type 0) where
  pub all_front : (A B : List X) → All P (A ++ B) → All P A
  all_front [] B h = All-nil P
  all_front (x ∷ A) B h = All-cons P x A (All-head P x (A ++ B) h) (all_front A B (All-tail P x (A ++ B) h))

  pub all_behind : (A B : List X) → All P (A ++ B) → All P B
  all_behind [] B h = h
  all_behind (x ∷ A) B h = all_behind A B (All-tail P x (A ++ B) h)

  -- what is so exactly if all so far are
  pub all_so_far : {A B : Type 0} (xs : List X) (i : ℕ) (x : X) → i < length xs → x ≡ get_or xs i x → A ↔ All P (take i xs) → B ↔ (A × P x) → B ↔ All P (take (i + 1) xs)
  all_so_far xs i x l is so_far one =
      let next : i + 1 ≡ suc i = omega arith in
      let more : take (i + 1) xs ≡ take i xs ++ x ∷ [] = ap (λ n. take n xs) next ∙ take-suc xs i x l ∙ ap (λ y. take i xs ++ y ∷ []) (sym is) in (
        λ b. subst (All P) (sym more) (All-append P (take i xs) (x ∷ []) (so_far.0 (one.0 b).0) (All-cons P x [] (one.0 b).1 (All-nil P))),
        λ all.
            let both : All P (take i xs ++ x ∷ []) = subst (All P) more all in
            one.1 (so_far.1 (all_front (take i xs) (x ∷ []) both), All-head P x [] (all_behind (take i xs) (x ∷ []) both)),
      )

-- a list that is mapped twice
pub map_twice : {A B C : Type 0} (g : B → C) (f : A → B) (xs : List A) → map (λ x. g (f x)) xs ≡ map g (map f xs)
map_twice g f [] = refl
map_twice g f (x ∷ xs) = ap (λ l. g (f x) ∷ l) (map_twice g f xs)
