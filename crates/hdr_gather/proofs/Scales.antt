-- Intervals whose values have one scale.
use Rattle.std.proofs.Common.{◌≡◌, ℕ, ◌++◌, [], List, Option, map, sym, subst, unwrap_or}
use Rattle.std.proofs.lemmas.List.{map-append}
use Rattle.std.proofs.lemmas.List.Elements.{All-append, All-nil}
use Rattle.std.proofs.lemmas.List.Sorted.{IsPermutation-append, IsPermutation-refl}
use Rattle.std.specs.List.Sorted.{IsPermutation}
use Rattle.hdr_input.specs.declared.unit.Unit.{Unit}
use Rattle.hdr_logs.specs.Stored.{Stored, view_of_stored, decimals_of}
use Rattle.hdr_logs.specs.declared.stored.StoredInterval.{StoredInterval}
use Rattle.hdr_gather.specs.Left.{AreIntervalsIn}
use Rattle.hdr_gather.specs.Logs.{AreIn}

-- no intervals
pub none_in : (decimals : Option ℕ) (unit : Option Unit) → AreIntervalsIn decimals unit []
none_in decimals unit = ([], All-nil (λ s. (decimals_of s ≡ unwrap_or decimals 0) × (s.unit ≡ unit)), IsPermutation-refl [])

-- intervals, and others in another order
pub more_in : (decimals : Option ℕ) (unit : Option Unit) (all sorted : List Stored) (items : List StoredInterval) → AreIntervalsIn decimals unit all → AreIn decimals unit items
    → IsPermutation (map view_of_stored items) sorted → AreIntervalsIn decimals unit (all ++ sorted)
more_in decimals unit all sorted items before own order =
    let both = IsPermutation-append (map view_of_stored before.0) all (map view_of_stored items) sorted before.2 order in (
      before.0 ++ items,
      All-append (λ s. (decimals_of s ≡ unwrap_or decimals 0) × (s.unit ≡ unit)) before.0 items before.1 own,
      subst (λ l. IsPermutation l (all ++ sorted)) (sym (map-append view_of_stored before.0 items)) both,
    )
