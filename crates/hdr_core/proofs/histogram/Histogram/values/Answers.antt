use Rattle.std.proofs.Common.{map, ap, ◌∙◌, subst, sym, arith}
use Rattle.hdr_counts.specs.Blocks.{Searched}
use Rattle.hdr_model.specs.Plain.{Plain}
use Rattle.hdr_model.proofs.QuantilesValues.{rank-pos}
use Rattle.hdr_model.specs.Quantiles.{per, nothing_of_it, returned_from, AreTopsNear}
use Rattle.hdr_model.proofs.QuantilesAscend.{values-first, values-near}
use Rattle.hdr_core.proofs.histogram.Histogram.values.Goals as goal

pub returns-clause-value : goal.returns-clause-value
returns-clause-value g c = values-first c.args.self.now c.args.whole (map (per c.args.whole) c.args.shares.now)

pub returns-clause-ranked : goal.returns-clause-ranked
returns-clause-ranked g c = λ S stands some.
    let h = c.args.self.now in
    let qs = map (per c.args.whole) c.args.shares.now in
    subst (AreTopsNear h S (returned_from h nothing_of_it qs)) (sym (values-first h c.args.whole qs))
    (values-near g.T.Counter.greatest h S qs (rw c.self.view_is at c.self.invariant.plain) stands some)

pub invariant_of-result : goal.invariant_of-result
invariant_of-result g c = (
  ap (λ (s : Searched). s.numbers) c.new.ensures ∙ ap (λ (p : Plain). p.counts) c.self.view_is,
  c.requires.nonzero,
  c.requires.at_most,
  omega arith,
  omega arith,
  omega arith,
  omega (arith, ap (λ (s : Searched). s.passed) c.new.ensures, rank-pos (per c.args.whole nothing_of_it) c.args.self.now.total),
)
