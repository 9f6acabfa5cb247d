use Rattle.std.proofs.Common.{◌∙◌, arith}
use Rattle.std.proofs.lemmas.Bool.{false≢true}
use Rattle.hdr_iterators.proofs.PicksSteps.{InStep-first}
use Rattle.hdr_iterators.proofs.picking.HistogramIterator.new.Goals as goal

pub invariant_of-result : goal.invariant_of-result
invariant_of-result g c =
    let h = c.args.bins in
    let count = c.as_u64-count.ensures.value in
    let first = InStep-first h (g.P.PickyIterator.picks c.args.picker h) c.as_u64-count.result c.requires.within c.first-count_at_index.ensures.nonempty (count ∙ c.first-count_at_index.ensures.value) (omega (arith, c.as_u64-count.type_inv)) in
    (c.requires.made, rw (← count) first, λ t. absurd (false≢true t), c.requires.filled)
