use Rattle.std.proofs.Common.{◌≡◌, ◌-◌, IsTrue, []}
use Rattle.hdr_iterators.specs.Seen.{bins_in}
use Rattle.hdr_iterators.specs.Picks.{InStep, AllFilled}
use Rattle.hdr_iterators.proofs.picking.HistogramIteratorIterator.next.Given as goal

abbrev pub invariant-loop-self : goal.invariant-loop-self
invariant-loop-self g l =
    let P = g.P.PickyIterator in
    let s = l.self-inside in
    let first = l.initial.self-inside in
    P.goes_with s.picker s.bins s.last_picked_index
    × InStep s.bins (P.picks s.picker s.bins) s.current_index s.total_count_to_index s.count_since_last_iteration (g.T.Counter.number s.count_at_index) s.last_picked_index
    × (IsTrue s.ended → P.picks s.picker s.bins ≡ [])
    × (P.picks s.picker s.bins ≡ P.picks first.picker first.bins)
    × (s.last_picked_index ≡ first.last_picked_index)
    × (s.bins ≡ first.bins)
    × (l.len ≡ bins_in s.bins)
    × (IsTrue s.skips_empty → AllFilled s.bins (P.picks s.picker s.bins))

abbrev pub decreases-loop-self : goal.decreases-loop-self
decreases-loop-self g l = l.len - l.self-inside.current_index
