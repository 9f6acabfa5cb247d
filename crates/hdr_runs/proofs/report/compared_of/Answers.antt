use Rattle.std.proofs.Common.{subst}
use Rattle.std.specs.Option.{option_copied}
use Rattle.hdr_runs.specs.Reports.{IsCompared}
use Rattle.hdr_runs.proofs.Reports.{zip_taken}
use Rattle.hdr_runs.proofs.report.compared_of.Goals as goal
use Rattle.hdr_summary.specs.declared.percentile.Percentile.{Percentile}

pub loop-percentile-preserved : goal.loop-percentile-preserved
loop-percentile-preserved c =
    let percentile = c.percentile-item.result in
    let P : Percentile → Type 0 =
    λ p. IsCompared c.args.tier c.args.decimals (option_copied c.args.before) (option_copied c.args.after) p c.in_ok-compared_at.field-0 in
    rw (c.in_ok-push.ensures.items) (zip_taken (IsCompared c.args.tier c.args.decimals (option_copied c.args.before) (option_copied c.args.after))
    c.args.percentiles.now c.loop-percentile.percentile-index percentile c.loop-percentile.all.items c.in_ok-compared_at.field-0 c.loop-percentile-test.true
    c.loop-percentile.invariant (subst P c.percentile-item.is c.in_ok-compared_at.ensures.compared))
