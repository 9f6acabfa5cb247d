use Rattle.std.proofs.Common.{◌≡◌, map, take}
use Rattle.std.specs.List.{fold, flat_map}
use Rattle.std.specs.Option.{option_copied}
use Rattle.hdr_runs.specs.Reports.{tag_of, with_tag}
use Rattle.hdr_runs.proofs.report.tags_of.Given as goal

abbrev pub invariant-loop-side : goal.invariant-loop-side
invariant-loop-side l = map option_copied l.tags.items ≡ map tag_of (take l.side-index l.before)

abbrev pub invariant-loop-run : goal.invariant-loop-run
invariant-loop-run l = map option_copied l.tags.items
    ≡ fold with_tag (map tag_of l.before) (flat_map (λ run. map tag_of run.sides.items) (take l.run-index l.runs))

abbrev pub invariant-loop-side-2 : goal.invariant-loop-side-2
invariant-loop-side-2 l = map option_copied l.tags.items
    ≡ fold with_tag (fold with_tag (map tag_of l.before) (flat_map (λ run. map tag_of run.sides.items) (take l.run-index l.runs)))
    (map tag_of (take l.side-index l.side-items))
