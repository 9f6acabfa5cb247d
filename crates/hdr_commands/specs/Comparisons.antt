-- Exit statuses of comparisons.
use Rattle.std.specs.Prelude.{ℕ, Bool, if◌then◌else◌, true, false, List}
use Rattle.std.specs.List.{list_any}
use Rattle.hdr_runs.specs.declared.limit.LimitVerdict.{LimitVerdict}
use Rattle.hdr_runs.specs.declared.limit.LimitVerdict.TheVariants.{Broken, Few}

abbrev pub is_broken : LimitVerdict → Bool
is_broken Broken = true
is_broken v = false

abbrev pub is_few : LimitVerdict → Bool
is_few Few = true
is_few v = false

-- the status of the verdicts of limits: 3 if one is broken, 4 if none is and one has too few samples, otherwise 0
abbrev pub status_of_limits : List LimitVerdict → ℕ
status_of_limits verdicts = if list_any is_broken verdicts then 3 else if list_any is_few verdicts then 4 else 0
