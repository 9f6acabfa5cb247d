-- Intervals of logs that are stored.
use Rattle.std.specs.Prelude.{◌≡◌, ℕ, ◌+◌, ◌-◌, ◌^◌, List, [], ◌∷◌, ◌++◌, map, min, Option, unwrap_or}
use Rattle.std.specs.List.{All}
use Rattle.std.specs.Duration.{as_nanos}
use Rattle.std.specs.String.{string_bytes}
use Rattle.hdr_input.specs.declared.unit.Unit.{Unit}
use Rattle.hdr_logs.specs.Times.{nearest_millisecond}
use Rattle.hdr_logs.specs.Intervals.{LogInterval}
use Rattle.hdr_logs.specs.declared.place.Place.{Place}
use Rattle.hdr_logs.specs.declared.stored.StoredInterval.{StoredInterval}
use Rattle.hdr_logs.specs.declared.intervals.LogIntervals.{LogIntervals}

-- an interval: the millisecond at which it begins, its tag, which is empty if there is none, its nanoseconds and the Base64 of its histogram
pub record Stored : Type 0 where
  pub start : ℕ
  pub tag : List ℕ
  pub duration : ℕ
  pub field : List ℕ

-- what is stored of an interval of a log
abbrev pub stored : LogInterval → Stored
stored i = record { start = nearest_millisecond i.time; tag = unwrap_or i.tag []; duration = i.duration; field = i.field }

abbrev pub view_of_stored : StoredInterval → Stored
view_of_stored s = record { start = s.start; tag = string_bytes s.tag; duration = as_nanos s.duration; field = string_bytes s.field }

-- how many milliseconds an interval lasts, to the nearest, as far as 64 bits hold them
abbrev pub length_of : StoredInterval → ℕ
length_of s = min (nearest_millisecond (as_nanos s.duration)) (2 ^ 64 - 1)

-- the millisecond at which it ends, as far as 64 bits hold it
abbrev pub end_of : StoredInterval → ℕ
end_of s = min (s.start + length_of s) (2 ^ 64 - 1)

-- the decimals of its values: those that a comment has, and otherwise 0
abbrev pub decimals_of : StoredInterval → ℕ
decimals_of s = unwrap_or s.decimals 0

-- the intervals of logs that are stored
abbrev pub intervals_of : LogIntervals → List Stored
intervals_of intervals = map view_of_stored intervals.list.items

-- these intervals are added, in order
abbrev pub Keeps : LogIntervals → List LogInterval → LogIntervals → Type 0
Keeps old all new = intervals_of new ≡ intervals_of old ++ map stored all

-- an interval is added, with these decimals and this unit, of this file and line
abbrev pub Pushes : Option ℕ → Option Unit → Place → LogIntervals → LogIntervals → Type 0
Pushes decimals unit place old new =
    (s : StoredInterval) × (new.list.items ≡ old.list.items ++ s ∷ []) × (s.decimals ≡ decimals) × (s.unit ≡ unit) × (s.place ≡ place)

-- intervals of one file are added
abbrev pub AddsOfFile : ℕ → LogIntervals → LogIntervals → Type 0
AddsOfFile file old new = (more : List StoredInterval) × (new.list.items ≡ old.list.items ++ more) × All (λ s. s.place.file ≡ file) more

-- the values of all intervals have the same decimals
abbrev pub HaveSameDecimals : LogIntervals → Type 0
HaveSameDecimals intervals = (decimals : ℕ) × All (λ s. decimals_of s ≡ decimals) intervals.list.items

-- the values of all intervals have the same unit, or none has one
abbrev pub HaveSameUnit : LogIntervals → Type 0
HaveSameUnit intervals = (unit : Option Unit) × All (λ s. s.unit ≡ unit) intervals.list.items
