use Rattle.std.proofs.Common.{◌≡◌, ◌∷◌, take, map}
use Rattle.hdr_logs.specs.Stored.{view_of_stored}
use Rattle.hdr_gather.proofs.Summing.{SumsSoFar}
use Rattle.hdr_gather.proofs.sum.Summing.sum_of.Given as goal

-- the sum so far
abbrev pub invariant-loop-part : goal.invariant-loop-part
invariant-loop-part l = record {
  sum : SumsSoFar ((view_of_stored l.first).field ∷ map (λ part. (view_of_stored part.now).field) (take l.part-index l.others)) l.sum;
  counts : l.self.counts ≡ l.initial.self.counts;
}
