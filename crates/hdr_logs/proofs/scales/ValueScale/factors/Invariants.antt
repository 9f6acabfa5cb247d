use Rattle.std.proofs.Common.{take}
use Rattle.std.specs.List.{AllZip}
use Rattle.hdr_logs.specs.Scales.{IsFactor}
use Rattle.hdr_logs.proofs.scales.ValueScale.factors.Given as goal

-- the factors so far are those of the first intervals
abbrev pub invariant-loop-interval : goal.invariant-loop-interval
invariant-loop-interval l = AllZip (IsFactor l.self.decimals l.self.unit) (take l.interval-index l.intervals) l.factors.items
