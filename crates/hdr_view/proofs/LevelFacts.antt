-- The least and the greatest of levels.
use Rattle.std.proofs.Common.{◌≡◌, ◌≤◌, ◌++◌, ◌∷◌, [], ℕ, List, length, max, min, arith}
use Rattle.std.specs.List.{All, AllZip, fold}
use Rattle.std.proofs.lemmas.List.Elements.{All-cons}
use Rattle.hdr_figures.specs.declared.level.PageLevel.{PageLevel}

abbrev pub least_of : ℕ → List PageLevel → ℕ
least_of n levels = fold (λ least (l : PageLevel). min least l.value) n levels

abbrev pub greatest_of : ℕ → List PageLevel → ℕ
greatest_of n levels = fold (λ greatest (l : PageLevel). max greatest l.value) n levels

pub least-below : (levels : List PageLevel) (n : ℕ) → least_of n levels ≤ n
least-below [] n = omega arith
least-below (l ∷ levels) n = omega (arith, least-below levels (min n l.value))

pub least-each : (levels : List PageLevel) (n : ℕ) → All (λ l. least_of n levels ≤ l.value) levels
least-each [] n = λ k d inside. absurd (omega (arith, inside))
least-each (l ∷ levels) n = All-cons (λ m. least_of n (l ∷ levels) ≤ m.value) l levels (omega (arith, least-below levels (min n l.value))) (least-each levels (min n l.value))

pub greatest-above : (levels : List PageLevel) (n : ℕ) → n ≤ greatest_of n levels
greatest-above [] n = omega arith
greatest-above (l ∷ levels) n = omega (arith, greatest-above levels (max n l.value))

pub greatest-each : (levels : List PageLevel) (n : ℕ) → All (λ l. l.value ≤ greatest_of n levels) levels
greatest-each [] n = λ k d inside. absurd (omega (arith, inside))
greatest-each (l ∷ levels) n = All-cons (λ m. m.value ≤ greatest_of n (l ∷ levels)) l levels (omega (arith, greatest-above levels (max n l.value))) (greatest-each levels (max n l.value))

-- one more of each of two lists
pub zip-push : {X Y : Type 0} (R : X → Y → Type 0) (xs : List X) (ys : List Y) (x : X) (y : Y) → AllZip R xs ys → R x y → AllZip R (xs ++ x ∷ []) (ys ++ y ∷ [])
zip-push R [] [] x y all one = (one, tt)
zip-push R [] (b ∷ ys) x y all one = absurd all
zip-push R (a ∷ xs) [] x y all one = absurd all
zip-push R (a ∷ xs) (b ∷ ys) x y all one = (all.0, zip-push R xs ys x y all.1 one)
