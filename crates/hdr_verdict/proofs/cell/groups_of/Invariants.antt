use Rattle.std.proofs.Common.{◌≡◌, ◌++◌, None, drop, map, Bor}
use Rattle.hdr_logs.specs.declared.stored.StoredInterval.{StoredInterval}
use Rattle.hdr_verdict.specs.Groups.{groups_from}
use Rattle.hdr_verdict.proofs.cell.groups_of.Given as goal

abbrev pub invariant-loop-index : goal.invariant-loop-index
invariant-loop-index l =
    l.groups.items ++ groups_from l.counts l.last l.index (drop l.index (map (λ (r : Bor StoredInterval). r.now) l.intervals)) ≡ groups_from l.counts None 0 (map (λ (r : Bor StoredInterval). r.now) l.intervals)
