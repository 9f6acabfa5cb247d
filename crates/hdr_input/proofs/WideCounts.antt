-- What is counted of numbers with more digits than are recorded.
use Rattle.std.proofs.Common.{◌≡◌, ℕ, zero, suc, ◌+◌, ◌*◌, ◌/◌, ◌%◌, ◌^◌, ◌<◌, ◌≤◌, min, List, [], ◌∷◌, ◌++◌, replicate, refl, sym, ap, ◌∙◌, arith}
use Rattle.std.proofs.Math.Nat.{div-lt_iff_lt-mul, le-mul_of_pos_right}
use Rattle.hdr_model.specs.Correction.{missing}
use Rattle.hdr_model.proofs.CorrectionFacts.{missing-none}
use Rattle.hdr_input.proofs.InUnits.{positive, units_same}
use Rattle.hdr_input.specs.declared.number.Number.{Number}
use Rattle.hdr_input.specs.declared.bound_tally.BoundTally.{BoundTally}
use Rattle.hdr_input.specs.Bounds.{of_units, position_of}
use Rattle.hdr_input.specs.BoundLaws.{missing_of, repeated}
use Rattle.hdr_input.specs.Numbers.{in_units}
use Rattle.hdr_input.specs.Recorded.{KeepsUnit, rounded_to}

-- a number of these decimals and this many units is rounded to them
pub rounded_as : (n x : Number) (d : ℕ) → n.decimals ≡ d → n.digits ≡ in_units x.digits x.decimals d → n ≡ rounded_to d x
rounded_as n x d decimals digits =
    let same : n ≡ record n { decimals = d } = ap (λ k. record n { decimals = k }) decimals in
    same ∙ ap (λ u. let m : Number = record { digits = u; decimals = d } in m) digits

-- Positions

-- a number whose units fit 64 bits is below 2 ^ 64
below : (n k D P : ℕ) → 0 < D → 0 < P → (n * P + D / 2) / D < 2 ^ 64 → n < 2 ^ 64 * D
below n k D P some one few =
    let product : n * P + D / 2 < 2 ^ 64 * D = (div-lt_iff_lt-mul {k = D} {x = n * P + D / 2} {y = 2 ^ 64} some).0 few in
    let grows : n ≤ n * P = le-mul_of_pos_right n one in
    omega (arith, product, grows)

-- the position of a number below 2 ^ 64 is below 2 ^ 125
small : (n D : ℕ) → 0 < D → n < 2 ^ 64 * D → 2 * (n * 10 ^ 18 / D) + min 1 (n * 10 ^ 18 % D) < 2 ^ 125
small n D some few =
    let part : n * 10 ^ 18 < 2 ^ 64 * 10 ^ 18 * D = omega (arith, few) in
    let whole : n * 10 ^ 18 / D < 2 ^ 64 * 10 ^ 18 = (div-lt_iff_lt-mul {k = D} {x = n * 10 ^ 18} {y = 2 ^ 64 * 10 ^ 18} some).1 part in
    omega (arith, whole)

position_small : (x : Number) (d : ℕ) → in_units x.digits x.decimals d < 2 ^ 64 → position_of x < 2 ^ 125
unfolding position_of
position_small x d few = small x.digits (10 ^ x.decimals) (positive x.decimals) (below x.digits x.decimals (10 ^ x.decimals) (10 ^ d) (positive x.decimals) (positive d) few)

-- a number whose units fit 64 bits has its exact position
pub exact_place : (x : Number) (d place : ℕ) → in_units x.digits x.decimals d < 2 ^ 64 → min place (2 ^ 125) ≡ min (position_of x) (2 ^ 125) → position_of x ≡ place
exact_place x d place few same =
    let low = position_small x d few in
    omega (arith, low, same)

-- Missing samples

-- a rounded number has the missing samples of the number
pub missing_rounded : (t : BoundTally) (n x : Number) → n ≡ rounded_to t.tally.decimals x → missing_of t n ≡ missing_of t x
missing_rounded t n x same =
    ap (missing_of t) same ∙ ap (λ u. of_units t.tally.decimals (missing u t.tally.interval)) (units_same (in_units x.digits x.decimals t.tally.decimals) t.tally.decimals)

-- the missing samples are the same in the same unit and interval
pub missing_kept : (old new : BoundTally) (x : Number) → KeepsUnit old.tally new.tally → missing_of new x ≡ missing_of old x
missing_kept old new x keeps =
    ap (λ d. of_units d (missing (in_units x.digits x.decimals d) new.tally.interval)) keeps.0
    ∙ ap (λ i. of_units old.tally.decimals (missing (in_units x.digits x.decimals old.tally.decimals) i)) keeps.1

-- without an expected interval there are none
pub none_missing : (t : BoundTally) (x : Number) → t.tally.interval ≡ 0 → missing_of t x ≡ []
none_missing t x none =
    let units : ℕ = in_units x.digits x.decimals t.tally.decimals in
    ap (λ i. of_units t.tally.decimals (missing units i)) none ∙ ap (of_units t.tally.decimals) (missing-none units)

-- Copies

one_last : (x : Number) (count : ℕ) → replicate count x ++ x ∷ [] ≡ x ∷ replicate count x
one_last x zero = refl
one_last x (suc count) = ap (λ l. x ∷ l) (one_last x count)

pub copies_repeated : (x : Number) (count : ℕ) → repeated count (x ∷ []) ≡ replicate count x
copies_repeated x zero = refl
copies_repeated x (suc count) = ap (λ l. l ++ x ∷ []) (copies_repeated x count) ∙ one_last x count
