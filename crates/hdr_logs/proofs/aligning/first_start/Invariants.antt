use Rattle.std.proofs.Common.{◌∷◌, take, map}
use Rattle.hdr_logs.specs.Aligned.{IsEarliest}
use Rattle.hdr_logs.proofs.aligning.first_start.Given as goal

-- the earliest so far
abbrev pub invariant-loop-interval : goal.invariant-loop-interval
invariant-loop-interval l = IsEarliest (l.initial.start ∷ map (λ i. i.start) (take l.interval-index l.others)) l.start
