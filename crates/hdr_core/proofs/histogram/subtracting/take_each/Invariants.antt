use Rattle.std.proofs.Common.{◌≡◌, ℕ, ◌+◌, ◌-◌, ◌<◌, ◌≤◌, length, get_or}
use Rattle.std.specs.List.{All}
use Rattle.hdr_model.specs.Plain.{resolution}
use Rattle.hdr_model.proofs.MergingHolds.{held}
use Rattle.hdr_core.proofs.histogram.subtracting.take_each.Given as goal

abbrev pub invariant-loop-bin : goal.invariant-loop-bin
invariant-loop-bin g l = record {
  filled : l.bin < length l.other.counts → 0 < get_or l.other.counts l.bin 0;
  block : l.counts.block ≡ l.initial.counts.block;
  bins : length l.counts.numbers ≡ length l.initial.counts.numbers;
  fit : All (λ n. n ≤ g.T.Counter.greatest) l.counts.numbers;
  taken : (j : ℕ) → get_or l.counts.numbers j 0 + held l.scale (resolution l.other) l.other.counts l.bin j ≡ get_or l.initial.counts.numbers j 0;
}

abbrev pub decreases-loop-bin : goal.decreases-loop-bin
decreases-loop-bin g l = length l.other.counts - l.bin
