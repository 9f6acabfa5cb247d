-- Ascending quantiles, and their values.
use Rattle.std.proofs.Common.{◌≡◌, ℕ, ◌+◌, ◌*◌, ◌<◌, ◌≤◌, suc, min, true, false, cond, ltb, eqb, List, [], ◌∷◌, length, get_or, map, sym, refl, ap, ap₂, ◌∙◌, subst, arith, inl, inr, eq-eqb}
use Rattle.std.specs.Int.{div_ceil}
use Rattle.std.proofs.lemmas.Bool.{cases_lt, lt-ltb, le-ltb, ltb-false}
use Rattle.std.proofs.lemmas.Grind.{div_ceil_times}
use Rattle.std.proofs.Math.Nat.{mul-le-mul_right}
use Rattle.hdr_base.specs.Fractions.{Ratio}
use Rattle.hdr_model.specs.Plain.{Plain, IsPlain}
use Rattle.hdr_model.specs.Samples.{StandsFor}
use Rattle.hdr_model.specs.Quantiles.{rank, per, is_below, nothing_of_it, rising_from, returned_from, quantiles_from, value_at_quantiles, value_at_quantile, IsAscending, AreTopsNear}
use Rattle.hdr_model.proofs.QuantilesValues.{ceil-le}
use Rattle.hdr_model.proofs.QuantilesFirst.{quantile-ranked}
use Rattle.hdr_model.proofs.RecordingStands.{eqb-other}

cancel : (x y d : ℕ) → 0 < d → x * d ≤ y * d → x ≤ y
cancel x y d some le =
    elim (cases_lt y x) [
      | inl lt ↦ (let row : (y + 1) * d ≤ x * d = mul-le-mul_right d (let u : y + 1 ≤ x = omega arith in u) in absurd (omega arith))
      | inr ge ↦ ge
    ]

-- quantiles that are capped at 1 ascend if the quantiles do
capped-rise : (a b c d : ℕ) → a * d ≤ c * b → min a b * d ≤ min c d * b
capped-rise a b c d le =
    let u : min a b * d ≤ a * d = mul-le-mul_right d (let z : min a b ≤ a = omega arith in z) in
    let v : min a b * d ≤ b * d = mul-le-mul_right d (let z : min a b ≤ b = omega arith in z) in
    elim (cases_lt c d) [
      | inl lt ↦ (let e : min c d * b ≡ c * b = ap (λ n. n * b) {x = min c d} {y = c} (omega arith) in omega arith)
      | inr ge ↦ (let e : min c d * b ≡ d * b = ap (λ n. n * b) {x = min c d} {y = d} (omega arith) in omega arith)
    ]

-- ranks ascend with the quantiles
pub rank-rises : (p q : Ratio) (n : ℕ) → 0 < p.den → 0 < q.den → is_below q p ≡ false → rank p n ≤ rank q n
unfolding rank
rank-rises p q n l m f =
    let rise : p.num * q.den ≤ q.num * p.den = ltb-false (q.num * p.den) (p.num * q.den) f in
    let both : min p.num p.den * q.den ≤ min q.num q.den * p.den = capped-rise p.num p.den q.num q.den rise in
    let x : ℕ = min p.num p.den in
    let y : ℕ = min q.num q.den in
    let r : ℕ = div_ceil (min q.num q.den * n) q.den in
    let enough : y * n ≤ r * q.den = (div_ceil_times (min q.num q.den * n) q.den m).0 in
    let a : x * q.den * n ≤ y * p.den * n = mul-le-mul_right n both in
    let b : y * n * p.den ≤ r * q.den * p.den = mul-le-mul_right p.den enough in
    let c : x * n * q.den ≤ r * p.den * q.den = omega (arith, a, b) in
    let d : x * n ≤ r * p.den = cancel (x * n) (r * p.den) q.den m c in
    let e : div_ceil (min p.num p.den * n) p.den ≤ r = ceil-le (x * n) p.den r l d in
    omega (arith, e)

-- among no samples each rank is 1
pub rank-of-none : (q : Ratio) → 0 < q.den → rank q 0 ≡ 1
unfolding rank
rank-of-none q l =
    let z : min q.num q.den * 0 ≤ 0 * q.den = omega arith in
    omega (arith, ceil-le (min q.num q.den * 0) q.den 0 l z)

pub per-some : (n : ℕ) (q : Ratio) → 0 < n → 0 < q.den → 0 < (per n q).den
per-some n q l m =
    let v : 1 * n ≤ q.den * n = mul-le-mul_right n (let u : 1 ≤ q.den = omega arith in u) in
    omega (arith, v, l)

-- fractions of the same denominator are compared by their numerators
per-below : (n : ℕ) (q p : Ratio) → 0 < n → is_below (per n q) (per n p) ≡ is_below q p
per-below n q p l =
    let a : q.num * (p.den * n) ≡ q.num * p.den * n = omega arith in
    let b : p.num * (q.den * n) ≡ p.num * q.den * n = omega arith in
    ap₂ (λ x y. ltb x y) a b ∙
    elim (cases_lt (q.num * p.den) (p.num * q.den)) [
      | inl lt ↦ (
          let u : q.num * p.den + 1 ≤ p.num * q.den = omega (arith, lt) in
          let v : (q.num * p.den + 1) * n ≤ p.num * q.den * n = mul-le-mul_right n u in
          lt-ltb (q.num * p.den * n) (p.num * q.den * n) (omega (arith, v, l)) ∙ sym (lt-ltb (q.num * p.den) (p.num * q.den) lt)
          )
      | inr ge ↦ (
          let v : p.num * q.den * n ≤ q.num * p.den * n = mul-le-mul_right n ge in
          le-ltb (q.num * p.den * n) (p.num * q.den * n) v ∙ sym (le-ltb (q.num * p.den) (p.num * q.den) ge)
          )
    ]

-- the rank of a quantile that is not below the one before is at least that one's rank; without samples all ranks are 1
pub rank-per-rises : (h : Plain) (n : ℕ) (p q : Ratio) → 0 < n → 0 < p.den → 0 < q.den → (0 < h.total → is_below q p ≡ false) → rank (per n p) h.total ≤ rank (per n q) h.total
rank-per-rises h n p q l a b f =
    elim (cases_lt 0 h.total) [
      | inl some ↦ rank-rises (per n p) (per n q) h.total (per-some n p l a) (per-some n q l b) (per-below n q p l ∙ f some)
      | inr none ↦ (
          let z : h.total ≡ 0 = omega arith in
          let one : (r : Ratio) → 0 < r.den → rank r h.total ≡ 1 = λ r m. ap (rank r) z ∙ rank-of-none r m in
          omega (arith, one (per n p) (per-some n p l a), one (per n q) (per-some n q l b))
          )
    ]

-- the next value follows
pub values-more : (h : Plain) (n : ℕ) (p q : Ratio) (qs : List Ratio) → 0 < n → (0 < h.total → is_below q p ≡ false)
    → quantiles_from h (per n p) (per n q ∷ qs) ≡ value_at_quantile h (per n q) ∷ quantiles_from h (per n q) qs
values-more h n p q qs l f =
    elim (cases_lt 0 h.total) [
      | inl some ↦ (
          let no : eqb h.total 0 ≡ false = eqb-other h.total 0 (λ z. omega (arith, z)) in
          rw no (rw (per-below n q p l ∙ f some) refl)
          )
      | inr none ↦ (let yes : eqb h.total 0 ≡ true = eq-eqb h.total 0 (omega arith) in rw yes refl)
    ]

-- a quantile below the one before ends the list
pub values-end : (h : Plain) (n : ℕ) (p q : Ratio) (qs : List Ratio) → 0 < n → 0 < h.total → is_below q p ≡ true → quantiles_from h (per n p) (per n q ∷ qs) ≡ []
values-end h n p q qs l some t =
    let no : eqb h.total 0 ≡ false = eqb-other h.total 0 (λ z. omega (arith, z)) in
    rw no (rw (per-below n q p l ∙ t) refl)

pub values-none : (h : Plain) (p : Ratio) → quantiles_from h p [] ≡ []
values-none h p = elim (eqb h.total 0) as (λ b. map (value_at_quantile h) (cond b [] []) ≡ []) [ true ↦ refl | false ↦ refl ]

-- no quantile is below the start
rising-first : (n : ℕ) (qs : List Ratio) → rising_from (per n nothing_of_it) qs ≡ rising_from nothing_of_it qs
rising-first n [] = refl
rising-first n (q ∷ qs) =
    let z : (m : ℕ) → 0 * q.den ≤ q.num * m = λ m. omega arith in
    ap (λ b. cond b [] (q ∷ rising_from q qs)) (le-ltb (q.num * (1 * n)) (0 * q.den) (z (1 * n)) ∙ sym (le-ltb (q.num * 1) (0 * q.den) (z 1)))

pub values-first : (h : Plain) (n : ℕ) (qs : List Ratio) → quantiles_from h (per n nothing_of_it) qs ≡ value_at_quantiles h qs
values-first h n qs = ap (λ xs. map (value_at_quantile h) (cond (eqb h.total 0) qs xs)) (rising-first n qs)

pub per-one : (qs : List Ratio) → map (per 1) qs ≡ qs
per-one [] = refl
per-one (q ∷ qs) =
    let e : q.den * 1 ≡ q.den = omega arith in
    let r : List Ratio → ℕ → List Ratio = λ rs d. record { num = q.num; den = d } ∷ rs in
    ap₂ r (per-one qs) e

-- each value is near its ranked sample
tops : (greatest : ℕ) (h : Plain) (S : List ℕ) (qs : List Ratio) → IsPlain greatest h → StandsFor h S → 0 < length S → AreTopsNear h S qs (map (value_at_quantile h) qs)
tops greatest h S [] p s some = tt
tops greatest h S (q ∷ qs) p s some = (λ den num. quantile-ranked greatest h q S p den s some num, tops greatest h S qs p s some)

pub values-near : (greatest : ℕ) (h : Plain) (S : List ℕ) (qs : List Ratio) → IsPlain greatest h → StandsFor h S → 0 < length S → AreTopsNear h S (returned_from h nothing_of_it qs) (value_at_quantiles h qs)
values-near greatest h S qs = tops greatest h S (returned_from h nothing_of_it qs)

-- an ascending list has the value at each of its quantiles
abbrev IsRisingFrom : Ratio → List Ratio → Type 0
IsRisingFrom p [] = Unit {0}
IsRisingFrom p (q ∷ qs) = (is_below q p ≡ false) × IsRisingFrom q qs

rising-whole : (p : Ratio) (qs : List Ratio) → IsRisingFrom p qs → rising_from p qs ≡ qs
rising-whole p [] r = refl
rising-whole p (q ∷ qs) r = ap (λ b. cond b [] (q ∷ rising_from q qs)) r.0 ∙ ap (λ xs. q ∷ xs) (rising-whole q qs r.1)

rising-if : (p : Ratio) (qs : List Ratio) → IsAscending (p ∷ qs) → IsRisingFrom p qs
rising-if p [] r = tt
rising-if p (q ∷ qs) r = (
  r 0 (omega arith),
  rising-if q qs (λ k l.
      let on : suc k + 1 ≡ suc (k + 1) = omega arith in
      subst (λ j. is_below (get_or (p ∷ q ∷ qs) j nothing_of_it) (get_or (q ∷ qs) k nothing_of_it) ≡ false) on (r (suc k) (omega (arith, l)))),
)

ascending-from : (qs : List Ratio) → IsAscending qs → IsRisingFrom nothing_of_it qs
ascending-from [] r = tt
ascending-from (q ∷ qs) r = (le-ltb (q.num * 1) (0 * q.den) (let z : 0 * q.den ≡ 0 = omega arith in omega (arith, z)), rising-if q qs r)

pub ascending-values : (h : Plain) (qs : List Ratio) → IsAscending qs → value_at_quantiles h qs ≡ map (value_at_quantile h) qs
ascending-values h qs r =
    ap (λ xs. map (value_at_quantile h) (cond (eqb h.total 0) qs xs)) (rising-whole nothing_of_it qs (ascending-from qs r))
    ∙ elim (eqb h.total 0) as (λ b. map (value_at_quantile h) (cond b qs qs) ≡ map (value_at_quantile h) qs) [ true ↦ refl | false ↦ refl ]
