use Rattle.std.proofs.Common.{◌≡◌, ◌+◌, ◌-◌, ◌<◌, ◌≤◌, length}
use Rattle.hdr_base.specs.Classes.{most_bins}
use Rattle.hdr_counts.specs.Blocks.{sum_before}
use Rattle.hdr_counts.proofs.search.Search.next_position.Given as goal

abbrev pub invariant-loop-sum : goal.invariant-loop-sum
invariant-loop-sum g l =
    (sum_before l.counts l.section + l.rest ≡ l.rank)
    × (0 < l.rest)
    × (l.section ≤ most_bins)
    × (l.self-inside.counts.now ≡ l.counts)
    × (l.counts ≡ l.initial.counts)

abbrev pub decreases-loop-sum : goal.decreases-loop-sum
decreases-loop-sum g l = length l.counts.numbers - l.section
