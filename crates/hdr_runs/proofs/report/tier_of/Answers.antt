use Rattle.std.proofs.Common.{ℕ, ◌*◌, ap, ◌∙◌, min, ◌^◌, ◌-◌}
use Rattle.hdr_runs.proofs.Reports.{min_product, tier_capped}
use Rattle.hdr_compare.specs.Tiers.{tier_of}
use Rattle.hdr_runs.proofs.report.tier_of.Goals as goal

pub returns-clause-tier : goal.returns-clause-tier
returns-clause-tier c =
    let most = 2 ^ 64 - 1 in
    c.of.ensures
    ∙ ap tier_of (c.saturating_mul-comparisons.ensures ∙ ap (λ (n : ℕ). min (n * c.args.percentiles) most) c.saturating_mul.ensures
    ∙ min_product c.args.tags c.args.runs c.args.percentiles most)
    ∙ tier_capped (c.args.tags * c.args.runs * c.args.percentiles)
