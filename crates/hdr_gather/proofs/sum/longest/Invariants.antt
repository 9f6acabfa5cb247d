use Rattle.std.proofs.Common.{◌∷◌, take, map}
use Rattle.std.specs.Duration.{as_nanos}
use Rattle.hdr_gather.specs.Lines.{IsLongest}
use Rattle.hdr_gather.proofs.sum.longest.Given as goal

-- the longest so far
abbrev pub invariant-loop-part : goal.invariant-loop-part
invariant-loop-part l = IsLongest (as_nanos l.first.duration ∷ map (λ part. as_nanos part.now.duration) (take l.part-index l.others)) (as_nanos l.longest)
