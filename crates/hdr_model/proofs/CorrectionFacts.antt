-- Missing values, in falling order.
use Rattle.std.proofs.Common.{◌≡◌, ℕ, zero, suc, ◌+◌, ◌-◌, ◌*◌, ◌/◌, ◌<◌, ◌≤◌, List, [], ◌∷◌, ◌++◌, length, map, refl, sym, ap, ◌∙◌, arith, inl, inr}
use Rattle.std.specs.List.{All, range_with_len, Contains}
use Rattle.std.proofs.lemmas.List.FromFn.{length-map-range_with_len, get_or-map-range_with_len}
use Rattle.std.proofs.lemmas.Bool.{cases_lt}
use Rattle.std.proofs.lemmas.Nat.{div-add-mod', mul-le, le-div}
use Rattle.std.proofs.Math.Nat.{div-zero, zero-div, div-eq_of_lt, add-div_right}
use Rattle.std.proofs.lemmas.List.Elements.{All-cons, All-nil, All-weaker}
use Rattle.hdr_model.specs.Correction.{missing, down_to, IsMissing}

-- n values from x on, each i below the one before
unfoldable pub falling : ℕ → ℕ → ℕ → List ℕ
falling i zero x = []
falling i (suc n) x = x ∷ falling i n (x - i)

-- the same as steps from a value
steps : (x i a n : ℕ) → map (λ j. x - j * i) (range_with_len a n) ≡ falling i n (x - a * i)
unfolding falling
steps x i a zero = refl
steps x i a (suc n) =
    let next : x - (a + 1) * i ≡ (x - a * i) - i = omega arith in
    ap (λ ys. (x - a * i) ∷ ys) (steps x i (a + 1) n ∙ ap (λ y. falling i n y) next)

pub down_to-falling : (x i : ℕ) → down_to x i ≡ falling i (x / i) x
unfolding down_to
down_to-falling x i = steps x i 0 (x / i) ∙ ap (λ y. falling i (x / i) y) (let e : x - 0 * i ≡ x = omega arith in e)

one-less : (x i : ℕ) → 0 < i → i ≤ x → x / i ≡ (x - i) / i + 1
one-less x i pos le =
    let e : x ≡ (x - i) + i = omega arith in
    ap (λ y. y / i) e ∙ add-div_right (x - i) pos

div-less : (x i : ℕ) → 0 < i → x / i - 1 ≡ (x - i) / i
div-less x i pos =
    elim (cases_lt x i) [
      | inl lt ↦ (
          let none : x / i ≡ 0 = div-eq_of_lt lt in
          let past : (x - i) / i ≡ 0 = ap (λ y. y / i) (let e : x - i ≡ 0 = omega arith in e) ∙ zero-div i in
          omega arith
          )
      | inr ge ↦ omega (arith, one-less x i pos ge)
    ]

-- the missing values are those from the first one down
pub missing-down : (v i : ℕ) → 0 < i → missing v i ≡ down_to (v - i) i
unfolding missing
missing-down v i pos =
    steps v i 1 (v / i - 1)
    ∙ ap (λ y. falling i (v / i - 1) y) (let e : v - 1 * i ≡ v - i = omega arith in e)
    ∙ ap (λ n. falling i n (v - i)) (div-less v i pos)
    ∙ sym (down_to-falling (v - i) i)

pub missing-none : (v : ℕ) → missing v 0 ≡ []
unfolding missing
missing-none v = ap (λ n. map (λ j. v - j * 0) (range_with_len 1 (n - 1))) (div-zero v)

pub down_to-end : (x i : ℕ) → x < i → down_to x i ≡ []
unfolding down_to
down_to-end x i lt = ap (λ n. map (λ j. x - j * i) (range_with_len 0 n)) (div-eq_of_lt lt)

pub down_to-more : (x i : ℕ) → 0 < i → i ≤ x → down_to x i ≡ x ∷ down_to (x - i) i
unfolding falling
down_to-more x i pos le =
    down_to-falling x i ∙ ap (λ n. falling i n x) (let e : x / i ≡ suc ((x - i) / i) = omega (arith, one-less x i pos le) in e) ∙ ap (λ ys. x ∷ ys) (sym (down_to-falling (x - i) i))

-- the first m of them, and the others
pub down_to-split : (m x i : ℕ) → 0 < i → m * i ≤ x → down_to x i ≡ falling i m x ++ down_to (x - m * i) i
unfolding falling
down_to-split zero x i pos le = ap (λ y. down_to y i) (let e : x ≡ x - 0 * i = omega arith in e)
down_to-split (suc m) x i pos le =
    let first : i ≤ x = omega arith in
    let next : (x - i) - m * i ≡ x - suc m * i = omega arith in
    down_to-more x i pos first ∙ ap (λ ys. x ∷ ys) (down_to-split m (x - i) i pos (omega arith) ∙ ap (λ y. falling i m (x - i) ++ down_to y i) next)

pub length-falling : (i m x : ℕ) → length (falling i m x) ≡ m
unfolding falling
length-falling i zero x = refl
length-falling i (suc m) x = ap suc (length-falling i m (x - i))

-- each of them is between the last and the first
pub falling-within : (low high i m x : ℕ) → low + m * i ≤ x + i → x ≤ high → All (λ y. (low ≤ y) × (y ≤ high)) (falling i m x)
unfolding falling
falling-within low high i zero x a b = All-nil (λ y. (low ≤ y) × (y ≤ high))
falling-within low high i (suc m) x a b =
    All-cons (λ y. (low ≤ y) × (y ≤ high)) x (falling i m (x - i)) (omega arith, b) (falling-within low high i m (x - i) (omega arith) (omega arith))

pub down_to-within : (x i : ℕ) → 0 < i → All (λ y. (i ≤ y) × (y ≤ x)) (down_to x i)
down_to-within x i pos =
    rw (down_to-falling x i) (falling-within i x i (x / i) x (omega (arith, div-add-mod' x i)) (omega arith))

-- the missing values, one by one
pub missing-are : (v i x : ℕ) → Contains (missing v i) x → IsMissing v i x
unfolding missing
missing-are v i x (k, lt, e) =
    let n = v / i - 1 in
    let room : k < n = omega (arith, length-map-range_with_len (λ j. v - j * i) 1 n) in
    let pos : 0 < i = elim (cases_lt 0 i) [
      | inl p ↦ p
      | inr none ↦ (let z : v / i ≡ 0 = ap (λ m. v / m) (let f : i ≡ 0 = omega arith in f) ∙ div-zero v in absurd (omega arith))
    ] in
    let row : (k + 2) * i ≤ v / i * i = mul-le (k + 2) i (v / i) i (omega arith) (omega arith) in
    record { steps = k + 1; some = omega arith; step = pos; at_least = omega (arith, div-add-mod' v i); is = sym e ∙ get_or-map-range_with_len (λ j. v - j * i) 1 n k (k + 1) x room (omega arith) }

pub are-missing : (v i x : ℕ) → IsMissing v i x → Contains (missing v i) x
unfolding missing
are-missing v i x m =
    let j = m.steps in
    let first = m.some in
    let pos = m.step in
    let le = m.at_least in
    let e = m.is in
    let n = v / i - 1 in
    let steps : j + 1 ≤ v / i = le-div (j + 1) v i pos (omega arith) in
    let room : j - 1 < n = omega arith in
    (j - 1, omega (arith, length-map-range_with_len (λ j. v - j * i) 1 n), get_or-map-range_with_len (λ j. v - j * i) 1 n (j - 1) j x room (omega arith) ∙ sym e)

-- the missing values lie at or below the value that was recorded
pub missing-within : (v i r : ℕ) → v ≤ r → All (λ x. x ≤ r) (missing v i)
missing-within v zero r le = rw (missing-none v) (All-nil (λ x. x ≤ r))
missing-within v (suc i) r le =
    rw (missing-down v (suc i) (omega arith))
    (All-weaker (λ y. (suc i ≤ y) × (y ≤ v - suc i)) (λ y. y ≤ r) (λ y h. omega (arith, h)) (down_to (v - suc i) (suc i)) (down_to-within (v - suc i) (suc i) (omega arith)))
