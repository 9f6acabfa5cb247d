use Rattle.std.proofs.Common.{take}
use Rattle.std.specs.List.{AllZip}
use Rattle.std.specs.Option.{option_copied}
use Rattle.hdr_runs.specs.Reports.{IsCompared}
use Rattle.hdr_runs.proofs.report.compared_of.Given as goal

abbrev pub invariant-loop-percentile : goal.invariant-loop-percentile
invariant-loop-percentile l = AllZip (IsCompared l.tier l.decimals (option_copied l.before) (option_copied l.after))
    (take l.percentile-index l.percentiles) l.all.items
