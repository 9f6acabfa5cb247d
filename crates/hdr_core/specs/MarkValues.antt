-- The values of the classes of marks. (Our own: the Rust crate keeps values alone, and here marks are classes or none.)
use Rattle.std.specs.Prelude.{◌≡◌, ℕ, ◌-◌, ◌^◌, ◌≤◌, Option, IfSome}
use Rattle.hdr_base.specs.Classes.{Resolution, bin_of}
use Rattle.hdr_model.specs.Marks.{top_of_mark, value_of_mark}

-- the class of a mark, if there is one, is that of some value
abbrev pub IsOfValues : Resolution → Option ℕ → Type 0
IsOfValues g mark = IfSome mark (λ i. i ≤ bin_of g (2 ^ 64 - 1))

-- v is the greatest value of the class of a mark, 0 for none
abbrev pub IsGreatest : Resolution → Option ℕ → ℕ → Type 0
IsGreatest g mark v = IsOfValues g mark → v ≡ top_of_mark g mark

-- v is the lowest value of the class of a mark, `u64::MAX` for none
abbrev pub IsLowest : Resolution → Option ℕ → ℕ → Type 0
IsLowest g mark v = IsOfValues g mark → v ≡ value_of_mark g mark
