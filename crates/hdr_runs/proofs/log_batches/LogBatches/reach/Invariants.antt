use Rattle.std.proofs.Common.{◌≡◌, List, ◌++◌, length}
use Rattle.std.specs.List.{All}
use Rattle.hdr_compare.specs.declared.batching.Batching.{Batching}
use Rattle.hdr_runs.specs.SumBatches.{IsWithoutSamples, digits_of_sums}
use Rattle.hdr_runs.proofs.log_batches.LogBatches.reach.Given as goal

abbrev pub invariant-loop : goal.invariant-loop
invariant-loop l =
    (l.counter ≡ length l.self.sums.items) × (digits_of_sums l.self ≡ digits_of_sums l.fn.self)
    × ((others : List Batching) × (l.self.sums.items ≡ l.fn.self.sums.items ++ others) × All (IsWithoutSamples (digits_of_sums l.fn.self)) others)
