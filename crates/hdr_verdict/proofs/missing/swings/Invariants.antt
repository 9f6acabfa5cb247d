use Rattle.std.proofs.Common.{◌≡◌, ◌≤◌, ◌-◌, max, length, map}
use Rattle.std.specs.List.{range_with_len}
use Rattle.hdr_verdict.specs.Missing.{swing_before}
use Rattle.hdr_verdict.proofs.missing.swings.Given as goal

abbrev pub invariant-loop-next : goal.invariant-loop-next
invariant-loop-next l = record {
  so_far : l.changes.items ≡ map (swing_before l.rates) (range_with_len 1 (l.next - 1));
  within : l.next ≤ max 1 (length l.rates);
}
