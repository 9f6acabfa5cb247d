-- The greatest value within a bound.
use Rattle.std.proofs.Common.{◌≡◌, ℕ, ◌-◌, ◌*◌, ◌/◌, ◌^◌, ◌<◌, ◌≤◌, true, false, min, leb, ltb, sym, ◌∙◌, arith, inl, inr}
use Rattle.std.proofs.lemmas.Bool.Decides.{nat_tests}
use Rattle.std.proofs.lemmas.Bool.{cases_lt}
use Rattle.std.proofs.Math.Nat.{le-div_iff_mul-le}
use Rattle.hdr_input.specs.declared.bound.Bound.{Bound}
use Rattle.hdr_input.specs.Bounds.{is_within, of_decimals}
use Rattle.hdr_input.proofs.InUnits.{positive}

-- a value is at most a quotient if and only if its product is at most the dividend
pub most-at : (v w p : ℕ) → 0 < p → v < 2 ^ 64 → leb (v * p) w ≡ leb v (min (w / p) (2 ^ 64 - 1))
most-at v w p some small =
    let both = le-div_iff_mul-le {k = p} {x = v} {y = w} some in
    elim (cases_lt w (v * p)) [
      | inl past ↦ (
          let above : w / p < v = elim (cases_lt (w / p) v) [ inl lt ↦ lt | inr le ↦ absurd (omega (arith, both.0 le)) ] in
          let no : leb (v * p) w ≡ false = grind (arith, nat_tests) in
          let below : min (w / p) (2 ^ 64 - 1) < v = omega arith in
          let none : leb v (min (w / p) (2 ^ 64 - 1)) ≡ false = grind (arith, nat_tests) in
          no ∙ sym none
          )
      | inr within ↦ (
          let le : v ≤ w / p = both.1 within in
          let yes : leb (v * p) w ≡ true = grind (arith, nat_tests) in
          let most : v ≤ min (w / p) (2 ^ 64 - 1) = omega arith in
          let some : leb v (min (w / p) (2 ^ 64 - 1)) ≡ true = grind (arith, nat_tests) in
          yes ∙ sym some
          )
    ]

-- below a level is at most one less
pub below-at : (x level : ℕ) → 1 ≤ level → ltb x level ≡ leb x (level - 1)
below-at x level some = grind (arith, nat_tests)

pub most-below : (v level p : ℕ) → 0 < p → v < 2 ^ 64 → 1 ≤ level → ltb (v * p) level ≡ leb v (min ((level - 1) / p) (2 ^ 64 - 1))
most-below v level p some small one = below-at (v * p) level one ∙ most-at v (level - 1) p some small

-- nothing is below 0
pub none-below : (x level : ℕ) → level < 1 → ltb x level ≡ false
none-below x level none = grind (arith, nat_tests)

-- the greatest value within a bound is a quotient
module _ (b : Bound) (d within p most v : ℕ) (power : p ≡ 10 ^ b.number.decimals) (is : most ≡ min (within / p) (2 ^ 64 - 1)) (small : v < 2 ^ 64) where
  some-power : 0 < p
  some-power = omega (arith, power, positive b.number.decimals)

  pub most-included : b.is_included ≡ true → within ≡ b.number.digits * 10 ^ d → is_within b (of_decimals d v) ≡ leb v most
  most-included included level = rw (included, ← power, ← level, is) (most-at v within p some-power small)

  pub most-excluded : b.is_included ≡ false → 1 ≤ b.number.digits * 10 ^ d → within ≡ b.number.digits * 10 ^ d - 1 → is_within b (of_decimals d v) ≡ leb v most
  most-excluded excluded one below = rw (excluded, ← power, is, below) (most-below v (b.number.digits * 10 ^ d) p some-power small one)
