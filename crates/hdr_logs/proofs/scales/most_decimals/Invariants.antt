use Rattle.std.proofs.Common.{◌-◌, take}
use Rattle.hdr_logs.specs.Scales.{power_of, IsGreatest}
use Rattle.hdr_logs.proofs.scales.most_decimals.Given as goal

-- the most decimals so far
abbrev pub invariant-loop-interval : goal.invariant-loop-interval
invariant-loop-interval l = IsGreatest (λ s. power_of s - l.exponent) (take l.interval-index l.intervals) l.most
