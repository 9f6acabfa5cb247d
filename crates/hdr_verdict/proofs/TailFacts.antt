-- The sample that leaves a tail above it, and tests that pass from some number on.
use Rattle.std.proofs.Common.{◌≡◌, ℕ, zero, suc, ◌+◌, ◌-◌, ◌*◌, ◌<◌, ◌≤◌, ◌↔◌, Bool, true, false, cond, ltb, List, [], ◌∷◌, length, get_or, count_by, min, refl, sym, ap, ◌∙◌, arith, inl, inr}
use Rattle.std.specs.List.{All}
use Rattle.std.proofs.lemmas.Bool.Decides.{nat_tests}
use Rattle.std.proofs.lemmas.Bool.{cases_lt}
use Rattle.std.proofs.lemmas.List.Sums.{sum_by-cons, count_by-le-length}
use Rattle.std.proofs.lemmas.List.Elements.{All-head, All-tail}
use Rattle.hdr_base.specs.Fractions.{Ratio}
use Rattle.hdr_model.specs.Quantiles.{sorted, rank, ranked_sample}
use Rattle.hdr_model.proofs.QuantilesOrder.{Ascends, sorted-count, sorted-Ascends, sorted-length}
use Rattle.std.specs.Int.{div_ceil}
use Rattle.std.proofs.lemmas.Grind.{div_ceil_times}
use Rattle.std.proofs.Math.Nat.{mul-le-mul_right, mul_comm, add-mul}
use Rattle.hdr_base.specs.Classes.{IsLeast}
use Rattle.hdr_verdict.specs.Tails.{quantile_without, tail_value, count_above, LeavesTail}

-- a test passes from some number on
abbrev pub Rises : (ℕ → Bool) → Type 0
Rises p = (a b : ℕ) → a ≤ b → p a ≡ true → p b ≡ true

-- how many pass, of one more number
count-one : (p : ℕ → Bool) (x : ℕ) (xs : List ℕ) → count_by p (x ∷ xs) ≡ cond (p x) 1 0 + count_by p xs
count-one p x xs = sum_by-cons (λ y. cond (p y) 1 0) x xs

all-pass : (p : ℕ → Bool) (x : ℕ) (xs : List ℕ) → Rises p → p x ≡ true → All (λ y. x ≤ y) xs → count_by p xs ≡ length xs
all-pass p x [] up is all = refl
all-pass p x (y ∷ ys) up is all =
    let one : p y ≡ true = up x y (All-head (λ y. x ≤ y) y ys all) is in
    let rest = all-pass p x ys up is (All-tail (λ y. x ≤ y) y ys all) in
    omega (arith, count-one p y ys, ap {B = ℕ} (λ (b : Bool). cond b 1 0) one, rest)

-- if a number of an ascending list passes, those from it on do
from-it : (p : ℕ → Bool) (xs : List ℕ) (k : ℕ) → Rises p → Ascends xs → k < length xs → p (get_or xs k 0) ≡ true → length xs ≤ count_by p xs + k
from-it p [] k up a h is = absurd (omega arith)
from-it p (x ∷ xs) zero up a h is =
    omega (arith, count-one p x xs, ap {B = ℕ} (λ (b : Bool). cond b 1 0) is, all-pass p x xs up is a.0)
from-it p (x ∷ xs) (suc k) up a h is = omega (arith, count-one p x xs, from-it p xs k up a.1 (omega arith) is)

not-before : (p : ℕ → Bool) (a b : ℕ) → Rises p → a ≤ b → p b ≡ false → (t : Bool) → p a ≡ t → t ≡ false
not-before p a b up le fails true is = sym (up a b le is) ∙ fails
not-before p a b up le fails false is = refl

-- if it does not pass, those up to it do not
up-to-it : (p : ℕ → Bool) (xs : List ℕ) (k : ℕ) → Rises p → Ascends xs → k < length xs → p (get_or xs k 0) ≡ false → count_by p xs + k + 1 ≤ length xs
up-to-it p [] k up a h is = absurd (omega arith)
up-to-it p (x ∷ xs) zero up a h is =
    omega (arith, count-one p x xs, ap {B = ℕ} (λ (b : Bool). cond b 1 0) is, count_by-le-length p xs)
up-to-it p (x ∷ xs) (suc k) up a h is =
    let no : p x ≡ false = (let none = not-before p x (get_or xs k 0) up (a.0 k 0 (omega arith)) is (p x) refl in none) in
    omega (arith, count-one p x xs, ap {B = ℕ} (λ (b : Bool). cond b 1 0) no, up-to-it p xs k up a.1 (omega arith) is)

-- the rank of the quantile that leaves out num / den, of n samples
rank-over : (num den n k : ℕ) → num < den → 0 < n → k < rank (quantile_without num den) n → k * den < (den - num) * n
unfolding rank
rank-over num den n k proper some over =
    let a = (den - num) * n in
    let least : min (den - num) den ≡ den - num = omega arith in
    let same : div_ceil (min (den - num) den * n) den ≡ div_ceil a den = ap (λ m. div_ceil (m * n) den) least in
    let c : ℕ = div_ceil a den in
    let less : c * den < a + den = (div_ceil_times a den (omega arith)).1 in
    let part : 1 * n ≤ a = mul-le-mul_right n (let u : 1 ≤ den - num = omega arith in u) in
    elim (cases_lt k c) [
      | inl lt ↦ (let row : (k + 1) * den ≤ c * den = mul-le-mul_right den (let u : k + 1 ≤ c = omega arith in u) in omega (arith, row, less))
      | inr ge ↦ (let z : k ≡ 0 = omega (arith, over, same) in let zero-times : k * den ≡ 0 = ap (λ m. m * den) z ∙ (let e : 0 * den ≡ 0 = omega arith in e) in omega (arith, zero-times, part))
    ]

rank-to : (num den n k : ℕ) → num < den → rank (quantile_without num den) n ≤ k → (den - num) * n ≤ k * den
unfolding rank
rank-to num den n k proper to =
    let a = (den - num) * n in
    let least : min (den - num) den ≡ den - num = omega arith in
    let same : div_ceil (min (den - num) den * n) den ≡ div_ceil a den = ap (λ m. div_ceil (m * n) den) least in
    let c : ℕ = div_ceil a den in
    let enough : a ≤ c * den = (div_ceil_times a den (omega arith)).0 in
    let row : c * den ≤ k * den = mul-le-mul_right den (let u : c ≤ k = omega (arith, to, same) in u) in
    omega (arith, enough, row)

rank-pos : (q : Ratio) (n : ℕ) → 1 ≤ rank q n
unfolding rank
rank-pos q n = omega arith

-- a difference times a number
difference : (a b c : ℕ) → b ≤ a → (a - b) * c + b * c ≡ a * c
difference a b c le = sym (add-mul (a - b) b c) ∙ ap (λ m. m * c) (let e : a - b + b ≡ a = omega arith in e)

-- the rest of both products
parts-over : (num den n k : ℕ) → num < den → k ≤ n → (n - k) * den < (den - num) * n → num * n < den * k
parts-over num den n k proper within over =
    omega (arith, difference n k den within, difference den num n (omega arith), mul_comm n den, mul_comm k den)

parts-to : (num den n k : ℕ) → num < den → k ≤ n → (den - num) * n ≤ (n - k) * den → den * k ≤ num * n
parts-to num den n k proper within to =
    omega (arith, difference n k den within, difference den num n (omega arith), mul_comm n den, mul_comm k den)

abbrev pub ranked_index : (num den : ℕ) → List ℕ → ℕ
ranked_index num den S = rank (quantile_without num den) (length S) - 1

index-inside : (num den : ℕ) (S : List ℕ) → num < den → 0 < length S → ranked_index num den S < length (sorted S)
index-inside num den S proper some =
    let q = quantile_without num den in
    let part : (den - num) * length S ≤ den * length S = mul-le-mul_right (length S) (let u : den - num ≤ den = omega arith in u) in
    let most : rank q (length S) ≤ length S = elim (cases_lt (length S) (rank q (length S))) [
      | inl lt ↦ absurd (let over = rank-over num den (length S) (length S) proper some lt in omega (arith, over, part))
      | inr ge ↦ ge
    ] in
    omega (arith, rank-pos q (length S), sorted-length S, most)

-- of how many of the samples a test passes decides whether it passes the sample at a quantile
pub ranked-passes : (p : ℕ → Bool) (num den : ℕ) (S : List ℕ) → Rises p → num < den → 0 < length S → p (ranked_sample (quantile_without num den) S) ≡ true → num * length S < den * count_by p S
unfolding ranked_sample
ranked-passes p num den S up proper some is =
    let q = quantile_without num den in
    let n = length S in
    let at = from-it p (sorted S) (ranked_index num den S) up (sorted-Ascends S) (index-inside num den S proper some) is in
    let few : n - count_by p S < rank q n = omega (arith, at, sorted-count p S, sorted-length S, rank-pos q n) in
    let over = rank-over num den n (n - count_by p S) proper some few in
    parts-over num den n (count_by p S) proper (count_by-le-length p S) over

pub ranked-fails : (p : ℕ → Bool) (num den : ℕ) (S : List ℕ) → Rises p → num < den → 0 < length S → p (ranked_sample (quantile_without num den) S) ≡ false → den * count_by p S ≤ num * length S
unfolding ranked_sample
ranked-fails p num den S up proper some is =
    let q = quantile_without num den in
    let n = length S in
    let at = up-to-it p (sorted S) (ranked_index num den S) up (sorted-Ascends S) (index-inside num den S proper some) is in
    let many : rank q n ≤ n - count_by p S = omega (arith, at, sorted-count p S, sorted-length S, rank-pos q n) in
    parts-to num den n (count_by p S) proper (count_by-le-length p S) (rank-to num den n (n - count_by p S) proper many)

above-rises : (v : ℕ) → Rises (ltb v)
above-rises v a b le is = grind (arith, nat_tests)

passes-if : (v value : ℕ) → v < value → ltb v value ≡ true
passes-if v value is = grind (arith, nat_tests)

fails-if : (v value : ℕ) → value ≤ v → ltb v value ≡ false
fails-if v value is = grind (arith, nat_tests)

pub tail-none : (num den : ℕ) → tail_value num den [] ≡ 0
unfolding tail_value ranked_sample
tail-none num den = refl

over-tail : (num den v : ℕ) (S : List ℕ) → num < den → v < tail_value num den S → num * length S < den * count_above v S
unfolding tail_value count_above
over-tail num den v [] proper is = absurd (omega (arith, is, tail-none num den))
over-tail num den v (x ∷ S) proper is = ranked-passes (ltb v) num den (x ∷ S) (above-rises v) proper (omega arith) (passes-if v (ranked_sample (quantile_without num den) (x ∷ S)) is)

within-tail : (num den v : ℕ) (S : List ℕ) → num < den → tail_value num den S ≤ v → den * count_above v S ≤ num * length S
unfolding tail_value count_above
within-tail num den v [] proper is = omega arith
within-tail num den v (x ∷ S) proper is = ranked-fails (ltb v) num den (x ∷ S) (above-rises v) proper (omega arith) (fails-if v (ranked_sample (quantile_without num den) (x ∷ S)) is)

pub tail-above : (num den v : ℕ) (S : List ℕ) → num < den → (num * length S < den * count_above v S) ↔ (v < tail_value num den S)
tail-above num den v S proper = (
  λ over. elim (cases_lt v (tail_value num den S)) [ inl lt ↦ lt | inr ge ↦ absurd (omega (arith, within-tail num den v S proper ge)) ],
  λ over. over-tail num den v S proper over,
)

pub tail-least : (num den : ℕ) (S : List ℕ) → num < den → IsLeast (LeavesTail num den S) (tail_value num den S)
tail-least num den S proper = record {
  holds = within-tail num den (tail_value num den S) S proper (omega arith);
  least = λ v leaves. elim (cases_lt v (tail_value num den S)) [ inl lt ↦ absurd (let over = over-tail num den v S proper lt in omega (arith, leaves, over)) | inr ge ↦ ge ];
}
