-- The order of steps.
use Rattle.std.proofs.Common.{◌≡◌, ℕ, zero, suc, ◌+◌, ◌-◌, ◌*◌, ◌/◌, ◌%◌, ◌^◌, ◌<◌, ◌≤◌, ◌⊎◌, inl, inr, refl, sym, ap, ◌∙◌, arith, add-one}
use Rattle.std.proofs.Math.Nat.{pow-suc, one-le-pow, div-lt_iff_lt-mul}
use Rattle.std.proofs.lemmas.Bool.{cases_lt}
use Rattle.hdr_draw.specs.Steps.{IsStep, step_of}

pub first_of_power : (k : ℕ) → step_of (3 * k) ≡ 10 ^ k
unfolding step_of
first_of_power k =
    let m : 3 * k % 3 ≡ 0 = omega arith in
    let d : 3 * k / 3 ≡ k = omega arith in
    rw (m, d) refl

pub second_of_power : (k : ℕ) → step_of (3 * k + 1) ≡ 2 * 10 ^ k
unfolding step_of
second_of_power k =
    let m : (3 * k + 1) % 3 ≡ 1 = omega arith in
    let d : (3 * k + 1) / 3 ≡ k = omega arith in
    rw (m, d) refl

pub third_of_power : (k : ℕ) → step_of (3 * k + 2) ≡ 5 * 10 ^ k
unfolding step_of
third_of_power k =
    let m : (3 * k + 2) % 3 ≡ 2 = omega arith in
    let d : (3 * k + 2) / 3 ≡ k = omega arith in
    rw (m, d) refl

-- an index by the power of its step
pub by_power : (j : ℕ) → (k : ℕ) × ((j ≡ 3 * k) ⊎ ((j ≡ 3 * k + 1) ⊎ (j ≡ 3 * k + 2)))
by_power j = (
  j / 3,
  elim (cases_lt (j % 3) 1) [
    | inl a ↦ inl (omega arith)
    | inr a ↦ elim (cases_lt (j % 3) 2) [
      | inl b ↦ inr (inl (omega arith))
      | inr b ↦ inr (inr (omega arith))
    ]
  ],
)

-- each step has an index
pub index_of : (n : ℕ) → IsStep n → (j : ℕ) × (n ≡ step_of j)
index_of n s = elim s.1 [
  | inl e ↦ (3 * s.0, e ∙ sym (first_of_power s.0))
  | inr t ↦ elim t [
    | inl e ↦ (3 * s.0 + 1, e ∙ sym (second_of_power s.0))
    | inr e ↦ (3 * s.0 + 2, e ∙ sym (third_of_power s.0))
  ]
]

pub are_steps : (j : ℕ) → IsStep (step_of j)
are_steps j =
    let p = by_power j in (
      p.0,
      elim p.1 [
        | inl e ↦ inl (ap step_of e ∙ first_of_power p.0)
        | inr q ↦ elim q [
          | inl e ↦ inr (inl (ap step_of e ∙ second_of_power p.0))
          | inr e ↦ inr (inr (ap step_of e ∙ third_of_power p.0))
        ]
      ],
    )

pub next_is_above : (j : ℕ) → step_of j < step_of (j + 1)
next_is_above j =
    let p = by_power j in
    let k : ℕ = p.0 in
    let o : 1 ≤ 10 ^ k = one-le-pow k 10 (omega arith) in
    let t : 10 ^ (k + 1) ≡ 10 ^ k * 10 = rw add-one (pow-suc 10 k) in
    let a = first_of_power k in
    let b = second_of_power k in
    let c = third_of_power k in
    let d = first_of_power (k + 1) in
    elim p.1 [
      | inl e ↦ rw (e, a, b) (omega arith)
      | inr q ↦ elim q [
        | inl e ↦ let f : 3 * k + 1 + 1 ≡ 3 * k + 2 = omega arith in rw (e, f, b, c) (omega arith)
        | inr e ↦ let f : 3 * k + 2 + 1 ≡ 3 * (k + 1) = omega arith in rw (e, f, c, d) (omega arith)
      ]
    ]

not_below : (i d : ℕ) → step_of i ≤ step_of (i + d)
not_below i zero =
    let e : step_of (i + 0) ≡ step_of i = ap step_of (omega arith) in
    omega arith
not_below i (suc d) =
    let h = not_below i d in
    let n = next_is_above (i + d) in
    let e : step_of (i + d + 1) ≡ step_of (i + suc d) = ap step_of (omega arith) in
    omega arith

pub steps_ascend : (i j : ℕ) → i ≤ j → step_of i ≤ step_of j
steps_ascend i j h =
    let n = not_below i (j - i) in
    let e : step_of (i + (j - i)) ≡ step_of j = ap step_of (omega arith) in
    omega arith

-- no step lies between those before an index and one that is not above the step at it
pub least_above : (value n i : ℕ) → ((k : ℕ) → k < i → step_of k < value) → IsStep n → value ≤ n → step_of i ≤ n
least_above value n i below s h =
    let p = index_of n s in
    elim (cases_lt p.0 i) [
      | inl l ↦ let b = below p.0 l in absurd (omega arith)
      | inr l ↦ let m = steps_ascend i p.0 l in omega arith
    ]

-- the step before a greater one is the greatest below that
pub greatest_below : (value n i : ℕ) → value < step_of (i + 1) → IsStep n → n ≤ value → n ≤ step_of i
greatest_below value n i above s h =
    let p = index_of n s in
    elim (cases_lt i p.0) [
      | inl l ↦ let m = steps_ascend (i + 1) p.0 (omega arith) in absurd (omega arith)
      | inr l ↦ let m = steps_ascend p.0 i l in omega arith
    ]

pub last_step : step_of 57 ≡ 10000000000000000000
unfolding step_of
last_step = refl

pub past_the_last : step_of 58 ≡ 20000000000000000000
unfolding step_of
past_the_last = refl

-- the greatest step below a value, by its first digit
pub below_second : (value n k : ℕ) → value < 2 * 10 ^ k → IsStep n → n ≤ value → n ≤ 10 ^ k
below_second value n k h s l = rw (← first_of_power k) (greatest_below value n (3 * k) (rw (second_of_power k) h) s l)

pub below_third : (value n k : ℕ) → value < 5 * 10 ^ k → IsStep n → n ≤ value → n ≤ 2 * 10 ^ k
below_third value n k h s l =
    let f : 3 * k + 1 + 1 ≡ 3 * k + 2 = omega arith in
    rw (← second_of_power k) (greatest_below value n (3 * k + 1) (rw (f, third_of_power k) h) s l)

pub below_next : (value n k : ℕ) → value < 10 * 10 ^ k → IsStep n → n ≤ value → n ≤ 5 * 10 ^ k
below_next value n k h s l =
    let f : 3 * k + 2 + 1 ≡ 3 * (k + 1) = omega arith in
    let t : 10 ^ (k + 1) ≡ 10 ^ k * 10 = rw add-one (pow-suc 10 k) in
    rw (← third_of_power k) (greatest_below value n (3 * k + 2) (rw (f, first_of_power (k + 1), t) (omega arith)) s l)

-- a value below some times a power, by its quotient
pub below_times : (value tens d k : ℕ) → tens ≡ 10 ^ k → value / tens < d → value < d * 10 ^ k
below_times value tens d k e h =
    let p : 0 < tens = rw e (one-le-pow k 10 (omega arith)) in
    rw (← e) ((div-lt_iff_lt-mul p).0 h)
