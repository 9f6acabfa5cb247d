-- The intervals of a log, with the times at which they begin, in nanoseconds since the epoch.
use Rattle.std.specs.Prelude.{ℕ, ◌+◌, List, [], ◌∷◌, Option, Some, None, Result, Ok, Err}
use Rattle.hdr_log.specs.Grammar.{Entry, Start, Base, Span, Interval, reading}

-- an interval, and the time at which it begins
pub record TimedInterval : Type 0 where
  pub time : ℕ
  pub interval : Interval

-- a start after the last base time before it, or after the epoch if there is none
abbrev pub time_after : Option ℕ → ℕ → ℕ
time_after None start = start
time_after (Some base) start = base + start

-- the last base time after one more entry
abbrev pub base_after : Option ℕ → Entry → Option ℕ
base_after base (Start time) = base
base_after base (Base time) = Some time
base_after base (Span i) = base

-- the interval of an entry, if it is one, where `base` is the last base time before it
abbrev pub interval_after : Option ℕ → Entry → Option TimedInterval
interval_after base (Start time) = None
interval_after base (Base time) = None
interval_after base (Span i) = Some (record { time = time_after base i.start; interval = i })

-- an interval, if there is one, and then others
abbrev pub and_interval : Option TimedInterval → List (Result TimedInterval ℕ) → List (Result TimedInterval ℕ)
and_interval None intervals = intervals
and_interval (Some i) intervals = Ok i ∷ intervals

-- the intervals of entries and the invalid lines, where `base` is the last base time before them
abbrev pub timed : Option ℕ → List (Result Entry ℕ) → List (Result TimedInterval ℕ)
timed base [] = []
timed base (Ok entry ∷ entries) = and_interval (interval_after base entry) (timed (base_after base entry) entries)
timed base (Err at ∷ entries) = Err at ∷ timed base entries

-- the intervals of a log in order, up to its end or to its first invalid line
abbrev pub timed_intervals : List ℕ → List (Result TimedInterval ℕ)
timed_intervals log = timed None (reading log)
