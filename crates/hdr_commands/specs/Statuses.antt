-- Exit statuses of levels.
use Rattle.std.specs.Prelude.{ℕ, Bool, if◌then◌else◌, true, false, List}
use Rattle.std.specs.List.{list_any, list_all}
use Rattle.hdr_summary.specs.declared.verdicts.Verdict.{Verdict}
use Rattle.hdr_summary.specs.declared.verdicts.Verdict.TheVariants.{Kept, Broken}

abbrev pub is_broken : Verdict → Bool
is_broken Broken = true
is_broken v = false

abbrev pub is_kept : Verdict → Bool
is_kept Kept = true
is_kept v = false

-- the status of verdicts: 3 if one is broken, 0 if all are kept and most lines were read, otherwise 4
abbrev pub status_of_verdicts : Bool → List Verdict → ℕ
status_of_verdicts is_skipped verdicts =
    if list_any is_broken verdicts then 3 else if is_skipped then 4 else if list_all is_kept verdicts then 0 else 4
