-- Numbers that are in units already.
use Rattle.std.proofs.Common.{◌≡◌, ℕ, ◌-◌, ◌/◌, ◌^◌, ◌%◌, ◌<◌, ◌≤◌, false, lit<, ◌∷◌, ap, ◌∙◌, arith}
use Rattle.std.specs.Prelude.{nat_lt}
use Rattle.std.proofs.Math.Nat.{pow-le-pow_right, mod-one}
use Rattle.std.proofs.lemmas.Nat.{div-mul-add}
use Rattle.hdr_model.specs.Plain.{Plain}
use Rattle.hdr_model.specs.Recording.{after_record, after_records}
use Rattle.hdr_model.specs.Correction.{after_correct, each_times}
use Rattle.hdr_model.proofs.CorrectionFacts.{missing-none}
use Rattle.hdr_input.specs.Numbers.{in_units}
use Rattle.hdr_input.specs.Rounding.{is_rounded}
use Rattle.hdr_input.specs.Recorded.{after_number}
use Rattle.hdr_input.specs.declared.number.Number.{Number}

-- a power of ten is positive
pub positive : (n : ℕ) → 0 < 10 ^ n
positive n =
    let from : 0 ≤ n = omega arith in
    let one : 10 ^ 0 ≤ 10 ^ n = pow-le-pow_right (lit< tt) from in
    one

-- a number with the decimals of the unit has its digits in units
pub units_same : (digits decimals : ℕ) → in_units digits decimals decimals ≡ digits
units_same digits decimals =
    let some : 0 < 10 ^ decimals = positive decimals in
    div-mul-add digits (10 ^ decimals) (10 ^ decimals / 2) (omega (arith, some))

-- without an expected interval the value alone is recorded
alone : (greatest : ℕ) (h : Plain) (v : ℕ) → after_correct greatest h v 1 0 ≡ after_record greatest h v 1
unfolding after_correct
alone greatest h v = ap (λ vs. after_records greatest h (each_times 1 (v ∷ vs))) (missing-none v)

-- a number with the decimals of the unit, without an expected interval
pub after_alone : (h : Plain) (number : Number) (decimals interval : ℕ) → decimals ≡ number.decimals → interval ≡ 0
    → after_number h number decimals interval ≡ after_record (2 ^ 64 - 1) h number.digits 1
after_alone h number decimals interval same none =
    ap (λ d. after_number h number d interval) same ∙ ap (λ i. after_number h number number.decimals i) none
    ∙ ap (λ units. after_correct (2 ^ 64 - 1) h units 1 0) (units_same number.digits number.decimals)
    ∙ alone (2 ^ 64 - 1) h number.digits

-- a number with the decimals of the unit is not rounded
pub exact_same : (x : Number) (decimals : ℕ) → decimals ≡ x.decimals → is_rounded x decimals ≡ false
exact_same x decimals same =
    let none : x.decimals - decimals ≡ 0 = omega (arith, same) in
    let rest : x.digits % 10 ^ (x.decimals - decimals) ≡ 0 = ap (λ n. x.digits % 10 ^ n) none ∙ mod-one x.digits in
    ap (λ n. nat_lt 0 n) rest
