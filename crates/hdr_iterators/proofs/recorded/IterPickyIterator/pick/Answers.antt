use Rattle.std.proofs.Common.{sym, refl, ap, ◌∙◌, arith}
use Rattle.hdr_iterators.specs.Picks.{bin_after}
use Rattle.hdr_iterators.proofs.PlacesBins.{recorded_next, recorded_past, recorded_empty}
use Rattle.hdr_iterators.proofs.recorded.IterPickyIterator.pick.Goals as goal
use Rattle.hdr_iterators.proofs.recorded.IterPickyIterator.pick.Goals.{then-as_u64-eq0-via-then-as_u64-eq0, then-as_u64-eq0-via-else-as_u64-eq0+then-eq}

pub returns-then-as_u64-eq0 : goal.returns-then-as_u64-eq0
returns-then-as_u64-eq0 g c = λ h last e candidate ahead.
    elim c.then-as_u64-eq0.branch [
      | then-as_u64-eq0-via-then-as_u64-eq0 w ↦ (e, refl, recorded_empty h c.args.self.now.visited c.args.index candidate.inside (omega (arith, candidate.count_is, w.if-as_u64-eq0.true, c.as_u64.ensures.value)) ahead)
      | then-as_u64-eq0-via-else-as_u64-eq0+then-eq w ↦ (e, refl, recorded_past h c.args.self.now.visited c.args.index (sym w.eq.ensures ∙ w.if-eq.true))
    ]

pub returns : goal.returns
returns g c = λ h last e candidate ahead. ((e.0, refl), rw c.new.ensures (recorded_next h c.args.self.now.visited c.args.index candidate.inside (omega (arith, candidate.in_order, ap bin_after e.1)) (omega (arith, candidate.count_is, c.if-as_u64-eq0.false, c.as_u64.ensures.value)) (sym c.eq.ensures ∙ c.if-eq.false) ahead))
