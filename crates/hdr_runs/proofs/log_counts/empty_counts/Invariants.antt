use Rattle.std.proofs.Common.{◌≤◌, [], take}
use Rattle.hdr_runs.specs.LogCounts.{AreCountsAt}
use Rattle.hdr_runs.proofs.log_counts.empty_counts.Given as goal

abbrev pub invariant-loop-level : goal.invariant-loop-level
invariant-loop-level l = l.decimals ≤ 18 → AreCountsAt (take l.level-index l.levels) l.decimals [] l.all.items
