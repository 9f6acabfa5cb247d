-- An interval of a log, as C sees it. Times are in nanoseconds.
use Rattle.std.specs.Prelude.{◌≡◌, ◌+◌, ◌*◌, ◌-◌, ◌^◌, ◌<◌, min, ℕ, Bool, true, false, Option, Some, None, List, length}
use Rattle.hdr_log.specs.Grammar as grammar
use Rattle.hdr_c.specs.declared.interval.Time.{Time}
use Rattle.hdr_c.specs.declared.interval.NextInterval.{NextInterval}

abbrev pub as_time : Time → ℕ
as_time t = t.seconds * 1_000_000_000 + t.nanos

abbrev pub if_has : Bool → ℕ → Option ℕ
if_has true time = Some time
if_has false time = None

-- the base time, if there is one
abbrev pub base_of : NextInterval → Option ℕ
base_of i = if_has i.has_base (as_time i.base)

-- the nanoseconds of a time, if there is one, are less than a second
abbrev pub AreNanosInRange : Option Time → Type 0
AreNanosInRange None = Unit {0}
AreNanosInRange (Some time) = time.nanos < 1_000_000_000

-- the number of bytes of a tag, 0 without one
abbrev pub tag_length : Option (List ℕ) → ℕ
tag_length None = 0
tag_length (Some tag) = length tag

-- C's interval has what the line from `at` to `after` has, and the base time before it. The tag follows the four bytes of
-- `Tag=`
pub record IsInterval (at after : ℕ) (before : Option ℕ) (found : grammar.Interval) (i : NextInterval) : Type 0 where
  pub next : i.next ≡ after
  pub start : as_time i.start ≡ found.start
  pub start_nanos : i.start.nanos < 1_000_000_000
  pub duration : as_time i.duration ≡ found.duration
  pub duration_nanos : i.duration.nanos < 1_000_000_000
  pub base : base_of i ≡ before
  pub no_base : i.has_base ≡ false → as_time i.base ≡ 0
  pub tag_at : i.tag_at ≡ min (at + 4) (2 ^ 64 - 1)
  pub tag_length : i.tag_length ≡ tag_length found.tag
