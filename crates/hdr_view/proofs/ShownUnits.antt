-- The unit in which values are shown.
use Rattle.std.proofs.Common.{◌≡◌, ◌≤◌, ◌+◌, ◌*◌, ℕ, Option, None, Some, IfSome, List, [], ◌∷◌, min, arith, ap, sym, ◌∙◌}
use Rattle.std.specs.List.{All}
use Rattle.std.specs.Option.{option_or, ForNone}
use Rattle.std.proofs.lemmas.List.Elements.{All-nil, All-cons, All-head, All-tail}
use Rattle.hdr_input.specs.Units.{exponent}
use Rattle.hdr_input.specs.declared.unit.Unit.{Unit}
use Rattle.hdr_logs.specs.Stored.{decimals_of}
use Rattle.hdr_logs.specs.declared.stored.StoredInterval.{StoredInterval}
use Rattle.hdr_view.specs.Amounts.{IsScale}
use Rattle.hdr_view.specs.Views.{IsShownIn}
use Rattle.hdr_view.specs.declared.amount.Units.{Units}

-- a value of 1 is shown as what it is by these decimals of a unit
abbrev pub ShownAs : Units → ℕ → Unit → Type 0
ShownAs units d u = (index : ℕ) × (units.unit ≡ Some index) × IsScale (d + exponent u) index units.times units.decimals

-- the scale of a unit is that of the unit of an interval
scale_of_one : (units : Units) (of unit other : Option Unit) (d n : ℕ) → (d ≤ 18 → IfSome (option_or unit other) (ShownAs units d))
    → n ≡ d → of ≡ unit → n ≤ 18 → IfSome of (ShownAs units n)
scale_of_one units of None other d n scale e f few = rw f tt
scale_of_one units of (Some u) other d n scale e f few = rw (f, e) (scale (rw e at few))

pub shown : (units : Units) (unit other : Option Unit) (d : ℕ) (all : List StoredInterval) → (d ≤ 18 → IfSome (option_or unit other) (ShownAs units d))
    → All (λ s. decimals_of s ≡ d) all → All (λ s. s.unit ≡ unit) all → All (IsShownIn units) all
shown units unit other d [] scale ds us = All-nil (IsShownIn units)
shown units unit other d (s ∷ all) scale ds us =
    let one : IsShownIn units s = scale_of_one units s.unit unit other d (decimals_of s) scale (All-head (λ s. decimals_of s ≡ d) s all ds) (All-head (λ s. s.unit ≡ unit) s all us) in
    All-cons (IsShownIn units) s all one (shown units unit other d all scale (All-tail (λ s. decimals_of s ≡ d) s all ds) (All-tail (λ s. s.unit ≡ unit) s all us))
