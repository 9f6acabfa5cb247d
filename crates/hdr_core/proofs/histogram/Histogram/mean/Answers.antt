use Rattle.std.proofs.Common.{◌≡◌, sym, ap, ◌∙◌, arith}
use Rattle.hdr_model.specs.Plain.{Plain}
use Rattle.hdr_model.proofs.StatisticsMeans.{mean-full, mean-nothing, mean-some}
use Rattle.hdr_core.proofs.histogram.Histogram.mean.Goals as goal

pub returns-then-self-clause-value : goal.returns-then-self-clause-value
returns-then-self-clause-value g c = sym (mean-full c.args.self.now (sym (ap (λ (p : Plain). p.total) c.self.view_is) ∙ c.if-self.true))

pub returns-then-self-eq0-clause-value : goal.returns-then-self-eq0-clause-value
returns-then-self-eq0-clause-value g c = sym (mean-nothing c.args.self.now (sym (ap (λ (p : Plain). p.total) c.self.view_is) ∙ c.if-self-eq0.true))

pub returns-clause-value : goal.returns-clause-value
returns-clause-value g c =
    let h = c.args.self.now in
    let total_is : c.self.inside.total ≡ h.total = ap (λ (p : Plain). p.total) c.self.view_is in
    rw (c.new.ensures, c.weighed.ensures, c.from.ensures, total_is) (sym (mean-some h (omega (arith, c.if-self-eq0.false, total_is)) (omega (arith, c.if-self.false, total_is, c.self.invariant.plain.total_fits))))
