-- The intervals of a log in the caller's memory, one after another.
use Rattle.std.specs.Prelude.{◌≡◌, ◌⊎◌, ◌+◌, ◌||◌, ℕ, Bool, true, false, List, [], ◌∷◌, Option, Some, None, length, drop, min}
use Rattle.std.specs.Char.{is_ascii_whitespace}
use Rattle.std.specs.List.{list_all}
use Rattle.std.specs.Option.{option_map}
use Rattle.hdr_log.specs.Parts.{parts}
use Rattle.hdr_log.specs.Grammar.{Entry, entry_of, is_skipped}
use Rattle.hdr_log.specs.Timed.{TimedInterval, base_after, interval_after}
use Rattle.hdr_log.specs.Grammar as grammar
use Rattle.hdr_log.specs.Reading.{view_of_interval}
use Rattle.hdr_model.specs.Plain.{Plain}
use Rattle.hdr_c.specs.declared.interval.Found as code
use Rattle.hdr_c.specs.declared.interval.Found.TheVariants as code_found
use Rattle.hdr_c.specs.declared.interval.NextInterval as c
use Rattle.hdr_c.specs.Decoding.{IsFieldHistogram, IsFieldStatus}
use Rattle.hdr_c.specs.Times.{as_time, base_of, IsInterval, AreNanosInRange}

-- what lines have up to their first interval: none, an invalid line at an offset, or an interval by the offset of its
-- line and of the next, the base time, and the entry of the line
pub data Found : Type 0 where
  End : Found
  Invalid : ℕ → Found
  Line : ℕ → ℕ → Option ℕ → grammar.Interval → Found

-- the interval of a line, or what follows it
abbrev pub line_or : Option TimedInterval → ℕ → ℕ → Option ℕ → (Option ℕ → Found) → Found
line_or (Some i) at next base later = Line at next base i.interval
line_or None at next base later = later base

-- a line that is skipped, or that has only whitespace
unfoldable pub is_passed : List ℕ → Bool
is_passed line = is_skipped line || list_all is_ascii_whitespace line

-- the line at an offset is the interval, or the search goes on after it, or it is invalid
abbrev pub or_later : Option Entry → Bool → ℕ → ℕ → Option ℕ → (Option ℕ → Found) → Found
or_later (Some entry) skipped at next base later = line_or (interval_after base entry) at next (base_after base entry) later
or_later None true at next base later = later base
or_later None false at next base later = Invalid at

-- what the parts between LFs have, of which the first is at an offset. The last part has no LF, so it is invalid unless it
-- is empty
unfoldable pub first_from : ℕ → Option ℕ → List (List ℕ) → Found
first_from at base [] = End
first_from at base ([] ∷ []) = End
first_from at base ((x ∷ line) ∷ []) = Invalid at
first_from at base (line ∷ part ∷ parts) =
    or_later (entry_of line) (is_passed line) at (at + length line + 1) base
    (λ later. first_from (at + length line + 1) later (part ∷ parts))

abbrev pub view_of_found : code.Found → Found
view_of_found code_found.End = End
view_of_found (code_found.Invalid at) = Invalid at
view_of_found (code_found.Interval at next base found) = Line at next (option_map as_time base) (view_of_interval found)

-- the nanoseconds of the base time, if an interval with one is found, are less than a second
abbrev pub AreBaseNanosInRange : code.Found → Type 0
AreBaseNanosInRange code_found.End = Unit {0}
AreBaseNanosInRange (code_found.Invalid at) = Unit {0}
AreBaseNanosInRange (code_found.Interval at next base found) = AreNanosInRange base

-- the status and the interval that a call returns, and the histogram of the handle after it
abbrev pub IsNext : ℕ → ℕ → Found → c.NextInterval → c.NextInterval → Option Plain → Option Plain → Type 0
IsNext status limit End old new before after = (status ≡ 23) × (new ≡ old) × (after ≡ before)
IsNext status limit (Invalid at) old new before after = (status ≡ 24) × (new ≡ record old { next = at }) × (after ≡ before)
IsNext status limit (Line at next base found) old new before after =
    IsInterval at next base found new
    × (((status ≡ 0) × ((h : Plain) × (after ≡ Some h) × IsFieldHistogram limit found.field h))
    ⊎ (IsFieldStatus limit found.field status × (after ≡ before)))

-- the next interval of a log is read
abbrev pub ReadsNext : ℕ → List ℕ → ℕ → c.NextInterval → c.NextInterval → Option Plain → Option Plain → Type 0
ReadsNext status log limit old new before after =
    IsNext status limit (first_from (min old.next (length log)) (base_of old) (parts 10 (drop (min old.next (length log)) log)))
    old new before after
