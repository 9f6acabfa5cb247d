use Rattle.std.proofs.Common.{subst, sym}
use Rattle.hdr_summary.specs.Percent.{IsSplit}
use Rattle.hdr_summary.proofs.Percentiles.{after-p, before-percent, split-part}
use Rattle.hdr_summary.proofs.percentile.parse_percentile.Goals as goal

pub returns-in_err-quantile-clause-none : goal.returns-in_err-quantile-clause-none
returns-in_err-quantile-clause-none c =
    let none = c.in_err-quantile.ensures.errors in
    rw c.from_residual.ensures (λ digits whole part marked split w p.
    let are = split-part digits whole part split w p in
    let left = after-p c.args.text.now c.without_p.result.now digits c.without_p.ensures.kept c.without_p.ensures.stripped are marked in
    let same = before-percent c.without_p.result.now c.without_percent-digits.result.now digits c.without_percent-digits.ensures.kept c.without_percent-digits.ensures.stripped are left in
    let parts = c.split_digits.ensures.only whole part (subst (λ d. IsSplit d whole part) (sym same) split) w in
    rw (sym parts.0, sym parts.1) (none (rw parts.0 w) (rw parts.1 p)))
