-- Intervals of numbers by time, which begin at as many lengths after 0 as their numbers say.
use Rattle.std.specs.Prelude.{ℕ, Bool, List, nat_lt, nat_le}
use Rattle.std.specs.List.Sorted.{IsSorted}
use Rattle.std.specs.Ordering.{nat_cmp, ordering_then}
use Rattle.std.specs.declared.cmp.Ordering.{Ordering}
use Rattle.hdr_input.specs.declared.intervals.TimeSlice.{TimeSlice}

-- an interval begins before that of a number
abbrev pub begins_before : ℕ → TimeSlice → Bool
begins_before number slice = nat_lt slice.number number

-- an interval begins no later than that of a number
abbrev pub begins_by : ℕ → TimeSlice → Bool
begins_by number slice = nat_le slice.number number

-- by time, and at one time by group
abbrev pub slice_order : TimeSlice → TimeSlice → Ordering
slice_order one other = ordering_then (nat_cmp one.number other.number) (nat_cmp one.group other.group)

abbrev pub AreInOrder : List TimeSlice → Type 0
AreInOrder slices = IsSorted slice_order slices
