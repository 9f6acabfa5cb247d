-- The state of the picker of levels at powers. (The fields of the Rust crate's `log::Iter`, as an invariant.)
use Rattle.std.specs.Prelude.{ℕ, ◌-◌, ◌^◌, ◌≤◌}
use Rattle.hdr_iterators.specs.Seen.{Seen, AreBins}

-- the next level is one less than the power
pub record LogStep (h : Seen) (power base : ℕ) : Type 0 where
  pub plain : AreBins h
  pub some : 1 ≤ power
  pub fits : power ≤ 2 ^ 64 - 1
  pub wide : 2 ≤ base
