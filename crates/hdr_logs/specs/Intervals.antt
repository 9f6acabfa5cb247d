-- The chosen intervals of logs.
use Rattle.std.specs.Prelude.{◌≡◌, ℕ, Bool, true, false, List, [], ◌∷◌, Option, Some, None, Result, Ok, Err}
use Rattle.std.specs.Option.{option_map}
use Rattle.std.specs.Duration.{as_nanos}
use Rattle.hdr_log.specs.Grammar.{Entry}
use Rattle.hdr_log.specs.Tags.{tag_text}
use Rattle.hdr_log.specs.Timed.{TimedInterval, timed}
use Rattle.hdrhistogram.specs.Chosen.{Filter, is_chosen}
use Rattle.hdr_logs.specs.Lines.{AreLines}
use Rattle.hdr_logs.specs.Fields.{IsPlainField}
use Rattle.hdr_logs.specs.Entries.{AreEntries}
use Rattle.hdr_logs.specs.declared.interval.Interval as code

-- an interval: the nanosecond at which it begins, its tag or none, its nanoseconds, and the Base64 of its plain histogram
pub record LogInterval : Type 0 where
  pub time : ℕ
  pub tag : Option (List ℕ)
  pub duration : ℕ
  pub field : List ℕ

abbrev pub view_of_log_interval : code.Interval → LogInterval
view_of_log_interval i = record { time = i.time; tag = option_map tag_text i.tag; duration = as_nanos i.duration; field = i.field.now }

-- a tag that is not empty: an empty one is none
abbrev pub tag_or_none : Option (List ℕ) → Option (List ℕ)
tag_or_none None = None
tag_or_none (Some []) = None
tag_or_none (Some (x ∷ tag)) = Some (x ∷ tag)

-- an interval with the plain histogram of its field
abbrev pub plain_interval : TimedInterval → List ℕ → LogInterval
plain_interval t plain = record { time = t.time; tag = tag_or_none t.interval.tag; duration = t.interval.duration; field = plain }

abbrev pub is_chosen_interval : Filter → TimedInterval → Bool
is_chosen_interval filter t = is_chosen filter (tag_or_none t.interval.tag) t.time

-- an interval is chosen, and begins these, or is left out
abbrev pub BeginsIf : Bool → TimedInterval → List LogInterval → List LogInterval → Type 0
BeginsIf false t all rest = all ≡ rest
BeginsIf true t all rest = (plain : List ℕ) × IsPlainField t.interval.field plain × (all ≡ plain_interval t plain ∷ rest)

-- the chosen ones of these intervals, in order, with plain histograms; no line is invalid
abbrev pub AreChosen : Filter → List (Result TimedInterval ℕ) → List LogInterval → Type 0
AreChosen filter [] all = all ≡ []
AreChosen filter (Err at ∷ timed) all = ⊥
AreChosen filter (Ok t ∷ timed) all = (rest : List LogInterval) × BeginsIf (is_chosen_interval filter t) t all rest × AreChosen filter timed rest

-- the chosen intervals of a text, after the last base time before it
abbrev pub TextHolds : Filter → Bool → Option ℕ → List ℕ → List LogInterval → Type 0
TextHolds filter is_first base text all =
    (lines : List (List ℕ)) × (entries : List (Result Entry ℕ))
    × AreLines lines text × AreEntries is_first lines entries × AreChosen filter (timed base entries) all

-- the chosen intervals of a log
abbrev pub LogHolds : Filter → List ℕ → List LogInterval → Type 0
LogHolds filter text all = TextHolds filter true None text all
