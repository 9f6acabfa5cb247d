use Rattle.std.proofs.Common.{take, ◌++◌, map}
use Rattle.std.specs.List.{AllZip, flat_map}
use Rattle.std.specs.Option.{option_copied}
use Rattle.hdr_runs.specs.Reports.{IsPairOf, subject, subjects_at}
use Rattle.hdr_runs.proofs.report.pairs_of.Given as goal

abbrev pub invariant-loop-tag : goal.invariant-loop-tag
invariant-loop-tag l = AllZip (IsPairOf l.tier l.before l.percentiles)
    (flat_map (subjects_at l.runs) (map option_copied (take l.tag-index l.tags))) l.pairs.items

abbrev pub invariant-loop-run : goal.invariant-loop-run
invariant-loop-run l = AllZip (IsPairOf l.tier l.before l.percentiles)
    (flat_map (subjects_at l.runs) (map option_copied (take l.tag-index l.tags)) ++ map (subject (option_copied l.tag)) (take l.run-index l.runs)) l.pairs.items
