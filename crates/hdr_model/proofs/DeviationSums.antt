-- The sum of numbers weighed by the squares of their classes.
use Rattle.std.proofs.Common.{◌≡◌, ℕ, zero, suc, ◌+◌, ◌*◌, ◌<◌, List, [], ◌∷◌, ◌++◌, length, get_or, take, ap, arith}
use Rattle.hdr_base.specs.Classes.{Resolution, value_of}
use Rattle.hdr_model.specs.Statistics.{median_of}
use Rattle.hdr_model.specs.Deviation.{squares_from}

-- a number at class k, times the square of its median value
abbrev pub square_at : Resolution → ℕ → ℕ → ℕ
square_at g k n = median_of g (value_of g k) * median_of g (value_of g k) * n

-- one number more
pub squared-more : (g : Resolution) (k : ℕ) (ns : List ℕ) (i : ℕ) → i < length ns
    → squares_from g k (take (i + 1) ns) ≡ squares_from g k (take i ns) + square_at g (k + i) (get_or ns i 0)
squared-more g k [] i lt = absurd (omega arith)
squared-more g k (n ∷ ns) zero lt =
    let e : square_at g k n ≡ square_at g (k + 0) n = ap (λ j. square_at g j n) (let z : k ≡ k + 0 = omega arith in z) in
    omega (arith, e)
squared-more g k (n ∷ ns) (suc i) lt =
    let e : square_at g (suc k + i) (get_or ns i 0) ≡ square_at g (k + suc i) (get_or ns i 0) = ap (λ j. square_at g j (get_or ns i 0)) (let z : suc k + i ≡ k + suc i = omega arith in z) in
    let on : squares_from g k (take (suc i + 1) (n ∷ ns)) ≡ squares_from g k (take (suc (i + 1)) (n ∷ ns)) = ap (λ j. squares_from g k (take j (n ∷ ns))) (let z : suc i + 1 ≡ suc (i + 1) = omega arith in z) in
    omega (arith, squared-more g (suc k) ns i (omega (arith, lt)), e, on)

-- a zero more adds nothing
pub squares-more-none : (g : Resolution) (k : ℕ) (ns : List ℕ) → squares_from g k (ns ++ 0 ∷ []) ≡ squares_from g k ns
squares-more-none g k [] = omega arith
squares-more-none g k (n ∷ ns) = ap (λ w. square_at g k n + w) (squares-more-none g (suc k) ns)
