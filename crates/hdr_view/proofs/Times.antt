-- How often indices are in lists.
use Rattle.std.proofs.Common.{◌≡◌, ◌∙◌, ℕ, ◌+◌, ◌<◌, ◌++◌, ◌∷◌, [], List, length, map, get_or, take, ap, refl, arith}
use Rattle.std.specs.Prelude.{◌==◌, if◌then◌else◌, nat_lt}
use Rattle.std.specs.List.{sum_by}
use Rattle.std.proofs.lemmas.Bool.Decides.{nat_tests}
use Rattle.std.proofs.lemmas.List.{take_more, map_push}
use Rattle.std.proofs.lemmas.List.Sums.{sum_by-append}
use Rattle.hdr_view.specs.declared.naming.NamedIncidents.{NamedIncidents}
use Rattle.hdr_view.specs.Naming.{times, times_in}

-- how often an index is in a list of one
abbrev pub one : ℕ → ℕ → ℕ
one index x = if x == index then 1 else 0

pub times-push : (index x : ℕ) (xs : List ℕ) → times index (xs ++ x ∷ []) ≡ times index xs + one index x
times-push index x xs = omega (arith, sum_by-append (λ y. one index y) xs (x ∷ []))

pub times-more : {X : Type 0} (f : X → ℕ) (index : ℕ) (xs : List X) (i : ℕ) (d : X) → i < length xs → times index (map f (take (i + 1) xs)) ≡ times index (map f (take i xs)) + one index (f (get_or xs i d))
times-more f index xs i d h = ap (λ l. times index (map f l)) (take_more xs i d h) ∙ ap (times index) (map_push f (take i xs) (get_or xs i d)) ∙ times-push index (f (get_or xs i d)) (map f (take i xs))

pub times_in-push : (index : ℕ) (line : NamedIncidents) (lines : List NamedIncidents) → times_in index (lines ++ line ∷ []) ≡ times_in index lines + times index line.all.items
times_in-push index line lines = omega (arith, sum_by-append (λ (l : NamedIncidents). times index l.all.items) lines (line ∷ []))

-- 1 if an index is below a number
abbrev pub below : ℕ → ℕ → ℕ
below index n = if nat_lt index n then 1 else 0

pub below-more : (index n : ℕ) → below index (n + 1) ≡ below index n + one index n
below-more index n = grind (arith, nat_tests)

pub times-next : (index : ℕ) (xs : List ℕ) (i d : ℕ) → i < length xs → times index (take (i + 1) xs) ≡ times index (take i xs) + one index (get_or xs i d)
times-next index xs i d h = ap (times index) (take_more xs i d h) ∙ times-push index (get_or xs i d) (take i xs)
