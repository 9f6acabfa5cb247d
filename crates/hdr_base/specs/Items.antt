-- The items of the iterators over a histogram. (`IterationValue`, its getters.)
use Rattle.std.specs.Prelude.{ℕ, Bool, ◌==◌}
use Rattle.std.specs.Ordering.{on, eq_of_both}
use Rattle.hdr_base.specs.Fractions.{Ratio}

-- the value, the quantile of its bin, the quantile iterated to, the bin's count, and the number of samples since the item
-- before
pub record Item : Type 0 where
  pub value : ℕ
  pub quantile : Ratio
  pub tick : Ratio
  pub count : ℕ
  pub since : ℕ

-- two fractions have the same numerator and the same denominator
abbrev pub same_ratio : Ratio → Ratio → Bool
same_ratio = eq_of_both (on (λ r. r.num) ◌==◌) (on (λ r. r.den) ◌==◌)

abbrev pub same_item : Item → Item → Bool
same_item =
    eq_of_both (on (λ i. i.value) ◌==◌) (eq_of_both (on (λ i. i.quantile) same_ratio) (eq_of_both (on (λ i. i.tick) same_ratio)
    (eq_of_both (on (λ i. i.count) ◌==◌) (on (λ i. i.since) ◌==◌))))
