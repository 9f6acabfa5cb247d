use Rattle.std.proofs.Common.{◌≡◌}
use Rattle.std.specs.List.{AllWithin}
use Rattle.hdr_logs.specs.Stored.{decimals_of}
use Rattle.hdr_gather.proofs.gathering.check_all.Given as goal

-- the intervals so far have these decimals
abbrev pub invariant-loop-interval : goal.invariant-loop-interval
invariant-loop-interval l = AllWithin (λ i. decimals_of i ≡ l.decimals) l.intervals 0 l.interval-index
