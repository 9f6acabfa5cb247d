-- The sums of the chosen intervals of logs.
use Rattle.std.specs.Prelude.{◌≡◌, ℕ, zero, suc, ◌-◌, ◌^◌, ◌<◌, ◌↔◌, Bool, true, false, IsTrue, if◌then◌else◌, List, [], ◌∷◌, length, map, Option, Some, None, unwrap_or}
use Rattle.std.specs.Option.{option_map}
use Rattle.std.specs.HashMap.{get_by_text}
use Rattle.std.specs.Str.{bytes_eq}
use Rattle.std.specs.String.{string_bytes}
use Rattle.hdr_base.specs.Classes.{IsFiner}
use Rattle.hdr_input.specs.declared.unit.Unit.{Unit}
use Rattle.hdr_model.specs.Plain.{Plain, empty_plain, resolution}
use Rattle.hdr_model.specs.Merging.{after_add}
use Rattle.hdrhistogram.specs.Chosen.{Filter, view_of_interval_choice}
use Rattle.hdrhistogram.specs.FieldRead.{IsHeldIn}
use Rattle.hdr_logs.specs.Intervals.{LogInterval, tag_or_none}
use Rattle.hdr_logs.specs.Stored.{Stored}
use Rattle.hdr_logs.specs.declared.sums.TagSum.{TagSum}
use Rattle.hdr_logs.specs.declared.sums.LogSums.{LogSums}

-- a sum of intervals, and their tag, or none
pub record Sum : Type 0 where
  pub tag : Option (List ℕ)
  pub histogram : Plain

abbrev pub view_of_sum : TagSum → Sum
view_of_sum s = record { tag = option_map string_bytes s.tag; histogram = s.histogram }

-- the sums of logs, in the order of their tags' first intervals
abbrev pub sums_of : LogSums → List Sum
sums_of s = map view_of_sum s.sums.items

-- both have the same tag, or none
abbrev pub is_same_tag : Option (List ℕ) → Option (List ℕ) → Bool
is_same_tag None None = true
is_same_tag None (Some other) = false
is_same_tag (Some tag) None = false
is_same_tag (Some tag) (Some other) = bytes_eq tag other

-- a sum without intervals, which grows
abbrev pub empty_sum : ℕ → Option (List ℕ) → Sum
empty_sum sigfig tag = record { tag = tag; histogram = empty_plain 1 2 sigfig true }

abbrev pub with_added : Sum → Plain → Sum
with_added sum h = record { tag = sum.tag; histogram = after_add (2 ^ 64 - 1) sum.histogram h }

-- the sums after a histogram was added to that of a tag, which begins without intervals
unfoldable pub after_interval : ℕ → List Sum → Option (List ℕ) → Plain → List Sum
after_interval sigfig [] tag h = with_added (empty_sum sigfig tag) h ∷ []
after_interval sigfig (sum ∷ sums) tag h =
    if is_same_tag sum.tag tag then with_added sum h ∷ sums else sum ∷ after_interval sigfig sums tag h

-- the choice of intervals, the digits of sums, whether each tag has one, and the sums
pub record Summing : Type 0 where
  pub filter : Filter
  pub sigfig : ℕ
  pub is_by_tag : Bool
  pub sums : List Sum

abbrev pub view_of_sums : LogSums → Summing
view_of_sums s = record { filter = view_of_interval_choice s.choice; sigfig = s.sigfig; is_by_tag = s.is_by_tag; sums = sums_of s }

abbrev pub with_sums : Summing → List Sum → Summing
with_sums s sums = record { filter = s.filter; sigfig = s.sigfig; is_by_tag = s.is_by_tag; sums = sums }

-- the tag of an interval's sum
abbrev pub sum_tag : Bool → Option (List ℕ) → Option (List ℕ)
sum_tag is_by_tag tag = if is_by_tag then tag else None

-- the histogram of an interval is added to the sum of its tag
abbrev pub Adds : Summing → LogInterval → Summing → Type 0
Adds old i new =
    (h : Plain) × IsHeldIn (2 ^ 64 - 1) i.field h
    × (new ≡ with_sums old (after_interval old.sigfig old.sums (sum_tag old.is_by_tag i.tag) h))

-- the same, and that histogram is left over
abbrev pub AddsHeld : Summing → LogInterval → Summing → Option Plain → Type 0
AddsHeld old i new left =
    (h : Plain) × IsHeldIn (2 ^ 64 - 1) i.field h
    × (new ≡ with_sums old (after_interval old.sigfig old.sums (sum_tag old.is_by_tag i.tag) h)) × (left ≡ Some h)

-- intervals are added, one after the other
abbrev pub AddsAll : Summing → List LogInterval → Summing → Type 0
AddsAll old [] new = new ≡ old
AddsAll old (i ∷ all) new = (mid : Summing) × Adds old i mid × AddsAll mid all new

-- the histogram that a field holds is added to a sum and left over, and it is coarser than the sum or not
abbrev pub AddsField : List ℕ → Plain → Plain → Option Plain → Bool → Type 0
AddsField field old new left coarser =
    (held : Plain) × IsHeldIn (2 ^ 64 - 1) field held × (new ≡ after_add (2 ^ 64 - 1) old held) × (left ≡ Some held)
    × (IsTrue coarser ↔ (IsFiner (resolution held) (resolution old) → ⊥))

-- the index of the first sum of a tag
unfoldable pub index_of : Option (List ℕ) → List Sum → Option ℕ
index_of tag [] = None
index_of tag (sum ∷ sums) = if is_same_tag sum.tag tag then Some 0 else option_map suc (index_of tag sums)

-- the decimals of the values of sums: those of the intervals so far, and 0 before the first
abbrev pub decimals_of_sums : LogSums → ℕ
decimals_of_sums s = unwrap_or s.decimals 0

-- a histogram, which an interval holds, is added to the sum of its tag, whose index is this
pub record AddsAt (old : Summing) (i : LogInterval) (new : Summing) (h : Plain) (index : ℕ) : Type 0 where
  pub held : IsHeldIn (2 ^ 64 - 1) i.field h
  pub added : new ≡ with_sums old (after_interval old.sigfig old.sums (sum_tag old.is_by_tag i.tag) h)
  pub at : index_of (sum_tag old.is_by_tag i.tag) new.sums ≡ Some index

-- the histogram of an interval is added to the sum of its tag, and is then taken: with the index of the sum and these decimals
abbrev pub Passes : {S : Type 0} → (S → ℕ → Plain → ℕ → S → Type 0) → ℕ → Summing → LogInterval → Summing → S → S → Type 0
Passes takes decimals old i new sink after = (h : Plain) × (index : ℕ) × AddsAt old i new h index × takes sink index h decimals after

-- the same of a stored interval
abbrev pub PassesStored : {S : Type 0} → (S → ℕ → Plain → ℕ → S → Type 0) → ℕ → Summing → Stored → Summing → S → S → Type 0
PassesStored takes decimals old s new sink after =
    (i : LogInterval) × (i.tag ≡ tag_or_none (Some s.tag)) × (i.field ≡ s.field) × Passes takes decimals old i new sink after

-- a stored interval is added
abbrev pub AddsStored : Summing → Stored → Summing → Type 0
AddsStored old s new = (i : LogInterval) × (i.tag ≡ tag_or_none (Some s.tag)) × (i.field ≡ s.field) × Adds old i new

-- the histograms of intervals are added and taken, one after the other
abbrev pub PassesAll : {S : Type 0} → (S → ℕ → Plain → ℕ → S → Type 0) → ℕ → Summing → List LogInterval → Summing → S → S → Type 0
PassesAll takes decimals old [] new sink after = (new ≡ old) × (after ≡ sink)
PassesAll {S} takes decimals old (i ∷ all) new sink after =
    (mid : Summing) × (between : S) × Passes takes decimals old i mid sink between × PassesAll takes decimals mid all new between after

-- the sums of tags are found by the indices
abbrev pub AreIndexed : LogSums → Type 0
AreIndexed s =
    ((tag : List ℕ) → get_by_text s.indices tag ≡ index_of (Some tag) (sums_of s))
    × (s.untagged ≡ index_of None (sums_of s))

-- the sums after a histogram was added to one of them
unfoldable pub added_at : ℕ → List Sum → Plain → List Sum
added_at i [] h = []
added_at zero (sum ∷ sums) h = with_added sum h ∷ sums
added_at (suc i) (sum ∷ sums) h = sum ∷ added_at i sums h

-- the sum of a tag is at this index, where it was or without intervals
abbrev pub IsSumAt : ℕ → List Sum → List Sum → Option (List ℕ) → ℕ → Type 0
IsSumAt sigfig old new tag i = (i < length new) × ((h : Plain) → after_interval sigfig old tag h ≡ added_at i new h)

-- only the sums and their indices may differ
abbrev pub KeepsOptions : LogSums → LogSums → Type 0
KeepsOptions old new = (new.choice ≡ old.choice) × (new.sigfig ≡ old.sigfig) × (new.is_by_tag ≡ old.is_by_tag)

-- the unit of the values of sums, if they have one
abbrev pub unit_of_sums : LogSums → Option Unit
unit_of_sums s = s.unit

-- once there was an interval, all values have its decimals and its unit
abbrev pub KeepScale : LogSums → LogSums → Type 0
KeepScale old new = (d : ℕ) → old.decimals ≡ Some d → (new.decimals ≡ Some d) × (new.unit ≡ old.unit)
