use Rattle.std.proofs.Common.{◌≡◌, ◌+◌, ◌*◌, ◌/◌, Option, Some, None, IfNone, ap, subst, ◌∙◌, inr}
use Rattle.hdr_summary.specs.Decimals.{IsPast128, hundredths}
use Rattle.hdr_summary.proofs.figures.converted_mean.Goals as goal

-- what follows without a value
weaker : {V P Q : Type 0} (value : Option V) → IfNone value P → (P → Q) → IfNone value Q
weaker None p f = f p
weaker (Some value) p f = tt

pub returns-clause-fits : goal.returns-clause-fits
returns-clause-fits c = λ sum is.
    let parts : c.in_ok-parts.parts ≡ hundredths c.args.conversion c.args.distribution.now.decimals
    = c.in_ok-parts.ensures.1 ∙ ap (λ f. f * 100) c.in_ok-factor.ensures.factor in
    weaker c.mean_in_parts.result (c.mean_in_parts.ensures.fits sum is)
    (λ past some. inr (subst (λ n. IsPast128 (sum * n + c.args.distribution.now.histogram.total / 2)) parts (past some)))
