use Rattle.std.proofs.Common.{List, take}
use Rattle.std.specs.List.{AllZip}
use Rattle.std.specs.Option.{option_map}
use Rattle.hdr_summary.specs.Classes.{Known}
use Rattle.hdr_runs.specs.LevelChecks.{IsOfTag}
use Rattle.hdr_runs.specs.LogCounts.{HasCounted}
use Rattle.hdr_runs.proofs.log_counts.TagCounts.checks.Given as goal

-- the checks so far are those of the first levels
abbrev pub invariant-loop-index : goal.invariant-loop-index
invariant-loop-index l =
    (L : List Known) → HasCounted l.levels l.decimals L l.self
    → AllZip (IsOfTag l.self l.decimals L (option_map (λ i. i.now) l.intervals)) (take l.index l.levels) l.checks.items
