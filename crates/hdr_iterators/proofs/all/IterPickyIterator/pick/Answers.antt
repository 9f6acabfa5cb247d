use Rattle.std.proofs.Common.{sym, refl, ap, ◌∙◌, arith}
use Rattle.hdr_iterators.specs.Picks.{bin_after}
use Rattle.hdr_iterators.proofs.PlacesBins.{all_next, all_past}
use Rattle.hdr_iterators.proofs.all.IterPickyIterator.pick.Goals as goal

pub returns-then-eq : goal.returns-then-eq
returns-then-eq g c = λ h last e candidate ahead. (e, refl, all_past h c.args.self.now.visited c.args.index (sym c.eq.ensures ∙ c.if-eq.true))

pub returns : goal.returns
returns g c = λ h last e candidate ahead. (refl, rw c.new.ensures (all_next h c.args.self.now.visited c.args.index candidate.inside (omega (arith, candidate.in_order, ap bin_after e)) (sym c.eq.ensures ∙ c.if-eq.false) ahead))
