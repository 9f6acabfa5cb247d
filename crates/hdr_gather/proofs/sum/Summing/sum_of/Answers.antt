use Rattle.std.proofs.Common.{◌≡◌, ◌∷◌, List, ℕ, map, take, take_all, refl, ap, subst, ◌∙◌, arith, Bor}
use Rattle.hdr_logs.specs.Stored.{Stored, view_of_stored}
use Rattle.hdr_logs.specs.declared.stored.StoredInterval.{StoredInterval}
use Rattle.hdr_logs.proofs.Parts.{map_twice}
use Rattle.hdr_gather.proofs.Summing.{SumsSoFar, sum_of_one, sum_of_next, sum_of_all}
use Rattle.hdr_gather.proofs.sum.Summing.sum_of.Goals as goal

abbrev field_of : Stored → List ℕ
field_of i = i.field

abbrev interval_at : Bor StoredInterval → Stored
interval_at part = view_of_stored part.now

abbrev field_at : Bor StoredInterval → List ℕ
field_at part = field_of (interval_at part)

pub loop-part-init : goal.loop-part-init
loop-part-init c = record {
  sum = sum_of_one (view_of_stored c.args.first.now).field _ c.new-sum.result c.in_ok-histogram_of.ensures.histogram c.new-sum.ensures;
  counts = refl;
}

pub loop-part-preserved : goal.loop-part-preserved
loop-part-preserved c = record {
  sum = sum_of_next field_at (view_of_stored c.args.first.now).field c.args.others.now c.loop-part.part-index c.part-item.result _ c.loop-part.sum _ c.loop-part-test.true c.part-item.is
      c.loop-part.invariant.sum c.in_ok-histogram.ensures.histogram (λ hs is. c.in_ok-add.ensures hs is);
  counts = c.in_ok-histogram.ensures.counts ∙ c.loop-part.invariant.counts;
}

pub returns-clause-sum : goal.returns-clause-sum
returns-clause-sum c =
    let others = c.args.others.now in
    let all : take c.loop-part.part-index others ≡ others = take_all c.loop-part.part-index others (omega (arith, c.loop-part-test.false)) in
    let fields : List (List ℕ) = (view_of_stored c.args.first.now).field ∷ map field_of (map interval_at others) in
    sum_of_all fields c.loop-part.sum (subst (λ l. SumsSoFar ((view_of_stored c.args.first.now).field ∷ l) c.loop-part.sum) (ap (map field_at) all ∙ map_twice field_of interval_at others) c.loop-part.invariant.sum)
