-- Verdicts of samples by their classes are true of the samples.
use Rattle.std.proofs.Common.{◌≡◌, ℕ, ◌*◌, ◌^◌, ◌<◌, ◌≤◌, Bool, true, false, leb, ltb, mul-le-mul_left, List, length, map, ◌∙◌, arith}
use Rattle.std.specs.Prelude.{if◌then◌else◌}
use Rattle.std.specs.List.{count_by}
use Rattle.std.proofs.lemmas.Bool.Decides.{nat_tests}
use Rattle.std.proofs.Math.Nat.{mul-le-mul_right}
use Rattle.std.proofs.lemmas.List.Sums.{count_by-le-length}
use Rattle.hdr_base.specs.Fractions.{Ratio}
use Rattle.hdr_base.specs.Classes.{lowest_of, top_of}
use Rattle.hdr_base.proofs.ClassesLaws.{lowest-le, top-of-value}
use Rattle.hdr_input.specs.declared.number.Number.{Number}
use Rattle.hdr_input.specs.declared.bound.Bound.{Bound}
use Rattle.hdr_input.specs.Bounds.{is_within, count_within, of_decimals}
use Rattle.hdr_summary.specs.declared.levels.Side.{Side}
use Rattle.hdr_summary.specs.declared.levels.Side.TheVariants.{Below, AtMost, Above, AtLeast}
use Rattle.hdr_summary.specs.declared.levels.Measure.{Measure}
use Rattle.hdr_summary.specs.declared.levels.Measure.TheVariants.{Count, Min, Max, Mean, Quantile}
use Rattle.hdr_summary.specs.declared.verdicts.Verdict.{Verdict}
use Rattle.hdr_summary.specs.declared.verdicts.Verdict.TheVariants.{Kept, Broken, Undecided, Few}
use Rattle.hdr_summary.specs.Verdicts.{IsOn, IsOff, AreLikely, IsFew, IsVerdict, rank_of}
use Rattle.hdr_summary.specs.declared.verdicts.LevelCounts.{LevelCounts}
use Rattle.hdr_summary.specs.Levels.{bound_of}
use Rattle.hdr_summary.specs.Classes.{Known, in_units, lowest_in_units, greatest_in_units, numbers_of, count_surely, count_perhaps, AreByClass, IsTrueOf, IsVerdictByClass}
use Rattle.hdr_summary.proofs.CountsByClass.{count-map, count-weaker}

-- what is within a bound stays within it if it falls
le-falls : (x y p n : ℕ) → x ≤ y → leb (y * p) n ≡ true → leb (x * p) n ≡ true
le-falls x y p n le is =
    let more : x * p ≤ y * p = mul-le-mul_right p le in
    grind (arith, nat_tests)

lt-falls : (x y p n : ℕ) → x ≤ y → ltb (y * p) n ≡ true → ltb (x * p) n ≡ true
lt-falls x y p n le is =
    let more : x * p ≤ y * p = mul-le-mul_right p le in
    grind (arith, nat_tests)

within-falls : (b : Bound) (d x y : ℕ) → x ≤ y → is_within b (of_decimals d y) ≡ true → is_within b (of_decimals d x) ≡ true
within-falls b d x y le = go b.is_included
  where
    go : (i : Bool) → (if i then leb (y * 10 ^ b.number.decimals) (b.number.digits * 10 ^ d) else ltb (y * 10 ^ b.number.decimals) (b.number.digits * 10 ^ d)) ≡ true
        → (if i then leb (x * 10 ^ b.number.decimals) (b.number.digits * 10 ^ d) else ltb (x * 10 ^ b.number.decimals) (b.number.digits * 10 ^ d)) ≡ true
    go true is = le-falls x y (10 ^ b.number.decimals) (b.number.digits * 10 ^ d) le is
    go false is = lt-falls x y (10 ^ b.number.decimals) (b.number.digits * 10 ^ d) le is

module _ (b : Bound) (d : ℕ) (L : List Known) where
  numbers-within : count_within b (numbers_of d L) ≡ count_by (λ x. is_within b (of_decimals d (in_units x))) L
  numbers-within = count-map (is_within b) (λ v. of_decimals d v) (map in_units L) ∙ count-map (λ v. is_within b (of_decimals d v)) in_units L

  -- those that are within a bound are at least those that surely are, and at most those that perhaps are
  pub surely-within : count_surely b d L ≤ count_within b (numbers_of d L)
  surely-within =
      omega (
        arith,
        numbers-within,
        count-weaker (λ x. is_within b (of_decimals d (greatest_in_units x))) (λ x. is_within b (of_decimals d (in_units x))) L
            (λ x. within-falls b d (in_units x) (greatest_in_units x) (mul-le-mul_left x.factor (top-of-value x.resolution x.value))),
      )

  pub within-perhaps : count_within b (numbers_of d L) ≤ count_perhaps b d L
  within-perhaps =
      omega (
        arith,
        numbers-within,
        count-weaker (λ x. is_within b (of_decimals d (in_units x))) (λ x. is_within b (of_decimals d (lowest_in_units x))) L
            (λ x. within-falls b d (lowest_in_units x) (in_units x) (mul-le-mul_left x.factor (lowest-le x.resolution x.value))),
      )

  pub within-length : count_within b (numbers_of d L) ≤ length L
  within-length = omega (arith, numbers-within, count_by-le-length (λ x. is_within b (of_decimals d (in_units x))) L)

-- what holds of a range of counts holds of each count in it
module _ (sure within perhaps n : ℕ) (from : sure ≤ within) (to : within ≤ perhaps) (all : within ≤ n) where
  on-side : (side : Side) (r : ℕ) → IsOn side r sure perhaps → IsOn side r within within
  on-side Below r is = omega (arith, from)
  on-side AtMost r is = omega (arith, from)
  on-side Above r is = omega (arith, to)
  on-side AtLeast r is = omega (arith, to)

  off-side : (side : Side) (r : ℕ) → IsOff side r sure perhaps → IsOff side r within within
  off-side Below r is = omega (arith, to)
  off-side AtMost r is = omega (arith, to)
  off-side Above r is = omega (arith, from)
  off-side AtLeast r is = omega (arith, from)

  are-likely : (q : Ratio) (side : Side) → AreLikely q side n sure perhaps → AreLikely q side n within within
  are-likely q Below is = (is.0, (let e : within ≡ n = omega (arith, from, all, is.1) in e))
  are-likely q AtMost is = (is.0, (let e : within ≡ n = omega (arith, from, all, is.1) in e))
  are-likely q Above is = (is.0, (let e : within ≡ 0 = omega (arith, to, is.1) in e))
  are-likely q AtLeast is = (is.0, (let e : within ≡ 0 = omega (arith, to, is.1) in e))

  are-few : (measure : Measure) (side : Side) → IsFew measure side n sure perhaps → IsFew measure side n within within
  are-few Count side is = is
  are-few Min side is = is
  are-few Max side is = is
  are-few Mean side is = is
  are-few (Quantile q) side is = (is.0, are-likely q side is.1)

  pub true-verdict : (measure : Measure) (side : Side) (verdict : Verdict) → IsVerdict measure side n sure perhaps verdict → IsTrueOf measure side n within verdict
  true-verdict measure side Kept is = on-side side (rank_of measure n) is.0
  true-verdict measure side Broken is = off-side side (rank_of measure n) is.0
  true-verdict measure side Undecided is = tt
  true-verdict measure side Few is = are-few measure side is

-- the verdict of counts by class
pub verdict-by-class : (c : LevelCounts) (measure : Measure) (side : Side) (number : Number) (d : ℕ) (L : List Known) (verdict : Verdict)
    → AreByClass c (bound_of side number) d L → length L < 2 ^ 64 → IsVerdict measure side c.total c.sure c.perhaps verdict → IsVerdictByClass measure side number d L verdict
verdict-by-class c measure side number d L verdict by few is =
    let b : Bound = bound_of side number in
    let n : c.total ≡ length L = omega (arith, by.total) in
    let surely : c.sure ≡ count_surely b d L = omega (arith, by.sure, surely-within b d L, within-length b d L) in
    let perhaps : c.perhaps ≡ count_perhaps b d L = omega (arith, by.perhaps, count_by-le-length (λ x. is_within b (of_decimals d (lowest_in_units x))) L) in
    let classes : IsVerdict measure side (length L) (count_surely b d L) (count_perhaps b d L) verdict = rw (← n, ← surely, ← perhaps) is in
    record {
      classes = classes;
      samples =
          true-verdict (count_surely b d L) (count_within b (numbers_of d L)) (count_perhaps b d L) (length L)
          (surely-within b d L) (within-perhaps b d L) (within-length b d L) measure side verdict classes;
    }
