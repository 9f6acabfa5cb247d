-- The intervals that logs have left while they are gathered.
use Rattle.std.specs.Prelude.{◌≡◌, ◌≤◌, ℕ, List, [], ◌∷◌, ◌++◌, Option, Some, None, IfSome, length, map}
use Rattle.std.specs.List.{All}
use Rattle.std.specs.List.Sorted.{IsPermutation}
use Rattle.std.specs.Option.{option_map}
use Rattle.hdr_log.specs.Tags.{tag_text}
use Rattle.hdrhistogram.specs.Chosen.{Filter}
use Rattle.hdr_logs.specs.Intervals.{LogInterval}
use Rattle.hdr_logs.specs.FileNames.{in_file}
use Rattle.hdr_logs.specs.Intervals as logs
use Rattle.hdr_logs.specs.Reading as reading
use Rattle.hdr_input.specs.declared.unit.Unit.{Unit}
use Rattle.hdr_logs.specs.Stored.{Stored, stored, view_of_stored, decimals_of}
use Rattle.hdr_logs.specs.declared.errors.LogError.{LogError}
use Rattle.hdr_logs.specs.declared.errors.LogError.TheVariants.{NotSorted}
use Rattle.hdr_logs.specs.declared.place.Place.{Place}
use Rattle.hdr_logs.specs.declared.stored.StoredInterval.{StoredInterval}
use Rattle.hdr_gather.specs.Counts.{CountsMore}
use Rattle.hdr_gather.specs.Logs.{AreIn, Writes, WritesLog}
use Rattle.hdr_gather.specs.declared.sum.Counts.{Counts}
use Rattle.hdr_gather.specs.declared.peekable.PeekableLog.{PeekableLog}

-- intervals of a log as they are stored, with their tags by its file if that has a name
abbrev pub stored_in : Option (List ℕ) → List LogInterval → List Stored
stored_in name intervals = map stored (map (in_file name) intervals)

-- the chosen intervals of a log, as they are stored
abbrev pub LogHolds : Filter → Option (List ℕ) → List ℕ → List Stored → Type 0
LogHolds filter name text all = (intervals : List LogInterval) × (all ≡ stored_in name intervals) × logs.LogHolds filter text intervals

abbrev pub name_of : {R : Type 0} → PeekableLog R → Option (List ℕ)
name_of log = option_map tag_text log.file_name

-- the chosen intervals of the lines that are not read yet
abbrev pub UnreadHold : {R : Type 0} → (R → Option (List ℕ)) → PeekableLog R → List Stored → Type 0
UnreadHold remaining log all = (intervals : List LogInterval) × (all ≡ stored_in (name_of log) intervals) × reading.UnreadHold remaining log.log intervals

abbrev pub next_interval : Option StoredInterval → List Stored
next_interval None = []
next_interval (Some next) = view_of_stored next ∷ []

-- the intervals that a log has left: the one that it holds, and those that are not read yet
abbrev pub HasLeft : {R : Type 0} → (R → Option (List ℕ)) → PeekableLog R → List Stored → Type 0
HasLeft remaining log all = (rest : List Stored) × (all ≡ next_interval log.next ++ rest) × UnreadHold remaining log rest

-- the intervals that logs have left, one log after another
abbrev pub HaveLeft : {R : Type 0} → (R → Option (List ℕ)) → List (PeekableLog R) → List Stored → Type 0
HaveLeft remaining [] all = all ≡ []
HaveLeft remaining (log ∷ logs) all =
    (one : List Stored) × (others : List Stored) × (all ≡ one ++ others) × HasLeft remaining log one × HaveLeft remaining logs others

-- the bytes that are not read yet are known
abbrev pub IsKnown : {R : Type 0} → (R → Option (List ℕ)) → PeekableLog R → Type 0
IsKnown remaining log = reading.IsKnown remaining log.log

-- the bytes that are not read yet are known, and without a next interval their lines have none
abbrev pub IsReadyAt : {R : Type 0} → (R → Option (List ℕ)) → PeekableLog R → Option StoredInterval → Type 0
IsReadyAt remaining log next = IsKnown remaining log × (next ≡ None → UnreadHold remaining log [])

abbrev pub IsReady : {R : Type 0} → (R → Option (List ℕ)) → PeekableLog R → Type 0
IsReady remaining log = IsReadyAt remaining log log.next

-- when the next interval of a log begins, if it has one
abbrev pub next_start : {R : Type 0} → PeekableLog R → Option ℕ
next_start log = option_map (λ next. next.start) log.next

-- it begins at this time or later
abbrev pub IsFrom : {R : Type 0} → ℕ → PeekableLog R → Type 0
IsFrom low log = IfSome (next_start log) (λ start. low ≤ start)

-- the error of an interval that begins before the one above it
abbrev pub IsNotSorted : LogError → Type 0
IsNotSorted error = (place : Place) × (error ≡ NotSorted place)

-- the decimals and the unit of the values of an interval
abbrev pub scale_of : StoredInterval → ℕ × Option Unit
scale_of s = (decimals_of s, s.unit)

-- the values of the next interval, if there is one, have these decimals and this unit
abbrev pub IsNextIn : {R : Type 0} → ℕ → Option Unit → PeekableLog R → Type 0
IsNextIn decimals unit log = IfSome log.next (λ s. (decimals_of s ≡ decimals) × (s.unit ≡ unit))

-- these are the intervals that logs have left, each once
abbrev pub AreLeft : {R : Type 0} → (R → Option (List ℕ)) → List (PeekableLog R) → List Stored → Type 0
AreLeft remaining logs intervals = (all : List Stored) × HaveLeft remaining logs all × IsPermutation all intervals

-- where logs have intervals left now, they had these and those left before
abbrev pub Loses : {R : Type 0} → (R → Option (List ℕ)) → List (PeekableLog R) → List (PeekableLog R) → List Stored → Type 0
Loses remaining old new taken = (rest : List Stored) → HaveLeft remaining new rest → AreLeft remaining old (taken ++ rest)

-- intervals were taken from a log, one by one, and appended to others
abbrev pub Takes : {R : Type 0} → (R → Option (List ℕ)) → PeekableLog R → PeekableLog R → List StoredInterval → List StoredInterval → Type 0
Takes remaining old new before after =
    (taken : List StoredInterval) × (after ≡ before ++ taken)
    × ((rest : List Stored) → HasLeft remaining new rest → HasLeft remaining old (map view_of_stored taken ++ rest))

-- intervals, whose values have these decimals and this unit, in some order
abbrev pub AreIntervalsIn : Option ℕ → Option Unit → List Stored → Type 0
AreIntervalsIn decimals unit all = (parts : List StoredInterval) × AreIn decimals unit parts × IsPermutation (map view_of_stored parts) all

-- the intervals that logs have left were written in order, and counted: all of them, if the logs are ready. Their values have one scale
abbrev pub WritesRest :
    {R : Type 0} → (R → Option (List ℕ)) → Option ℕ → Option Unit → List (PeekableLog R) → Counts → Counts → Option (List ℕ) → Option (List ℕ) → Type 0
WritesRest remaining decimals unit logs before after old new =
    (all : List Stored) × (finer : ℕ) × Writes all finer old new × CountsMore before (length all) finer after
    × (All (IsReady remaining) logs → AreLeft remaining logs all) × AreIntervalsIn decimals unit all

-- a log was written of all intervals that logs have left, if the bytes that are not read yet are known. Its comments have the decimals and the unit of
-- the values
abbrev pub Gathers : {R : Type 0} → (R → Option (List ℕ)) → List (PeekableLog R) → Counts → Option (List ℕ) → Option (List ℕ) → Type 0
Gathers remaining logs counts old new =
    (decimals : Option ℕ) × (unit : Option Unit) × (all : List Stored) × WritesLog decimals unit all counts old new
    × (All (IsKnown remaining) logs → AreLeft remaining logs all) × AreIntervalsIn decimals unit all
