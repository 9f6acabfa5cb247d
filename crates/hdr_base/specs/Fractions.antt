-- Fractions, as numerator and denominator. (The Rust crate takes and returns quantiles as `f64`.)
use Rattle.std.specs.Prelude.{ℕ, List, ◌++◌, codes}
use Rattle.std.specs.Fmt.{decimal}

-- the fraction num / den
pub record Ratio : Type 0 where
  pub num : ℕ
  pub den : ℕ

-- the text of a fraction, as it is displayed
abbrev pub fraction_text : Ratio → List ℕ
fraction_text r = decimal r.num ++ codes "/" ++ decimal r.den
