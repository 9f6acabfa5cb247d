use Rattle.std.proofs.Common.{◌≡◌, ap, arith, refl, subst}
use Rattle.hdr_model.specs.Plain.{Plain}
use Rattle.hdr_model.specs.Deviation.{IsRoot, scaled_variance}
use Rattle.hdr_core.specs.Integers.{number_of}
use Rattle.hdr_core.proofs.histogram.Histogram.standard_deviation.Goals as goal

pub returns-clause-value : goal.returns-clause-value
returns-clause-value g c =
    let h = c.args.self.now in
    let total_is : c.self.inside.total ≡ h.total = ap (λ (p : Plain). p.total) c.self.view_is in
    let variance_is : number_of c.saturating_sub-variance.result ≡ scaled_variance h =
    rw (c.saturating_sub-variance.ensures, c.times.ensures, c.squares.ensures.sum, c.square-sum.ensures, c.weighed.ensures, total_is) refl in
    rw c.new.ensures (
      omega (arith, c.if-self.false, total_is, c.self.invariant.plain.total_fits),
      record {
        num = subst (λ n. IsRoot n c.root.result) variance_is c.root.ensures;
        den = omega (arith, c.from.ensures, total_is, c.if-self-eq0.false);
      },
    )
