use Rattle.std.proofs.Common.{◌≡◌, ℕ, ◌-◌, ◌<◌, ◌≤◌, length, get_or, map}
use Rattle.hdr_counts.proofs.Counts.filled_by_section.Given as goal

abbrev pub invariant-loop-place : goal.invariant-loop-place
invariant-loop-place g l =
    let ns = map g.T.Counter.number l.self-inside.counters.items in
    (l.from ≤ l.place) × (l.place ≤ length ns) × ((i : ℕ) → l.from ≤ i → i < l.place → get_or ns i 0 ≡ 0)

abbrev pub decreases-loop-place : goal.decreases-loop-place
decreases-loop-place g l = length l.self-inside.counters.items - l.place
