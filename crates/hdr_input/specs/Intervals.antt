-- Numbers by time, while they are read.
use Rattle.std.specs.Prelude.{◌≡◌, ℕ, ◌+◌, ◌-◌, ◌/◌, ◌^◌, Bool, List, Option, Some, None, min, nat_lt, ◌==◌, if◌then◌else◌, refl}
use Rattle.std.proofs.Common.{◌∙◌}
use Rattle.hdr_input.specs.declared.intervals.TimeSlice.{TimeSlice}
use Rattle.hdr_input.specs.declared.intervals.Intervals.{Intervals}

-- the intervals that are held
abbrev pub held : Intervals → List TimeSlice
held i = i.intervals.items

-- the number of the latest interval so far
abbrev pub latest_of : Intervals → ℕ
latest_of i = i.latest

-- the intervals before this number were taken: later numbers of their times are late
abbrev pub taken_to : Intervals → ℕ
taken_to i = i.open_from

-- how many numbers were late
abbrev pub late_of : Intervals → ℕ
late_of i = i.late_count

-- whether an interval has begun after others, since intervals were taken last
abbrev pub has_later : Intervals → Bool
has_later i = i.has_complete

-- the length of an interval in nanoseconds, or none
abbrev pub length_of : Intervals → Option ℕ
length_of i = i.cut.length

-- how often the number that was read last counts
abbrev pub count_of : Intervals → ℕ
count_of i = i.count

-- the number of the interval of a time in nanoseconds
abbrev pub number_at : Option ℕ → ℕ → ℕ
number_at None time = 0
number_at (Some length) time = if length == 0 then 0 else time / length

-- how many numbers were late after one more of the interval of a number, which counts some times
abbrev pub with_late : (taken_to number count late : ℕ) → ℕ
with_late taken_to number count late = if nat_lt number taken_to then min (late + count) (2 ^ 64 - 1) else late

-- some number was read, of which as many may be late as it counts
abbrev pub CountsLate : Intervals → Intervals → Type 0
CountsLate old new = (number count : ℕ) × (late_of new ≡ with_late (taken_to old) number count (late_of old))

-- the latest interval is as it was, and so is what was taken and late
abbrev pub KeepsTimes : Intervals → Intervals → Type 0
KeepsTimes old new = (latest_of new ≡ latest_of old) × (taken_to new ≡ taken_to old) × (late_of new ≡ late_of old)

-- what was read last, and how it is divided, is as it was
abbrev pub KeepsNumber : Intervals → Intervals → Type 0
KeepsNumber old new = (length_of new ≡ length_of old) × (count_of new ≡ count_of old)

-- a number is read, and not recorded yet
pub record KeepsHeld (old new : Intervals) : Type 0 where
  pub held : held new ≡ held old
  pub later : has_later new ≡ has_later old
  pub latest : latest_of new ≡ latest_of old
  pub taken_to : taken_to new ≡ taken_to old
  pub late : late_of new ≡ late_of old

pub keeps_held : (i : Intervals) → KeepsHeld i i
keeps_held i = record { held = refl; later = refl; latest = refl; taken_to = refl; late = refl }

pub keeps_held_after : (a b c : Intervals) → KeepsHeld a b → KeepsHeld b c → KeepsHeld a c
keeps_held_after a b c first more = record {
  held = more.held ∙ first.held;
  later = more.later ∙ first.later;
  latest = more.latest ∙ first.latest;
  taken_to = more.taken_to ∙ first.taken_to;
  late = more.late ∙ first.late;
}
