use Rattle.std.proofs.Common.{◌≡◌, ◌+◌, ◌-◌, ◌^◌, ◌≤◌, min, take, sum, sym, ap, ◌∙◌, subst, arith}
use Rattle.hdr_base.specs.Fractions.{Ratio}
use Rattle.hdr_model.specs.Plain.{Plain}
use Rattle.hdr_model.specs.Statistics.{bin_or_last}
use Rattle.hdr_model.proofs.StatisticsShares.{share-of-none, share-of-some, share-of-samples, share-at-most}
use Rattle.hdr_core.proofs.histogram.Histogram.quantile_below.Goals as goal

pub returns-then-self-eq0-clause-value : goal.returns-then-self-eq0-clause-value
returns-then-self-eq0-clause-value g c = sym (share-of-none c.args.self.now c.args.value (sym (ap (λ (p : Plain). p.total) c.self.view_is) ∙ c.if-self-eq0.true))

pub returns-clause-value : goal.returns-clause-value
returns-clause-value g c =
    let h = c.args.self.now in
    let total_is : c.self.inside.total ≡ h.total = ap (λ (p : Plain). p.total) c.self.view_is in
    let num_is : c.from.result ≡ min (sum (take (bin_or_last h c.args.value + 1) h.counts)) (2 ^ 64 - 1) =
    c.from.ensures ∙ c.saturating_from-up_to.ensures
    ∙ ap (λ n. min n (2 ^ 64 - 1)) (c.sum_to.ensures ∙ ap (λ (p : Plain). sum (take (c.bin_or_last.result + 1) p.counts)) c.self.view_is ∙ ap (λ k. sum (take (k + 1) h.counts)) c.bin_or_last.ensures.value) in
    rw (c.new.ensures, num_is, c.from-2.ensures, total_is) (sym (share-of-some h c.args.value (omega (arith, c.if-self-eq0.false, total_is))))

pub returns-clause-samples : goal.returns-clause-samples
returns-clause-samples g c = λ S stands some.
    returns-clause-value g c ∙ share-of-samples g.T.Counter.greatest c.args.self.now c.args.value S c.bin_or_last.ensures.plain stands some

pub returns-clause-share : goal.returns-clause-share
returns-clause-share g c =
    subst (λ (q : Ratio). q.num ≤ q.den) (sym (returns-clause-value g c)) (share-at-most g.T.Counter.greatest c.args.self.now c.args.value c.bin_or_last.ensures.plain).0
