use Rattle.std.proofs.Common.{◌≡◌, ◌∙◌, ◌*◌, ap, arith, ◌<◌, MatchOption, sum, subst}
use Rattle.hdr_base.specs.Fractions.{Ratio}
use Rattle.hdr_counts.specs.Blocks.{IsFirstToReach}
use Rattle.hdr_model.specs.Plain.{Plain, resolution}
use Rattle.hdr_model.specs.Quantiles.{rank, position_of_rank, value_at_bin, value_at_quantile}
use Rattle.hdr_model.proofs.QuantilesFirst.{quantile-ranked, rank-read}
use Rattle.hdr_core.proofs.histogram.Histogram.value_at_percentile.Goals as goal

pub value_at_rank-requires-clause-first : goal.value_at_rank-requires-clause-first
value_at_rank-requires-clause-first g c =
    subst (λ (p : Plain). MatchOption c.position_of_rank.result (sum p.counts < c.rank_of-rank.result) (IsFirstToReach p.counts c.rank_of-rank.result)) c.self.view_is c.position_of_rank.ensures

pub returns-clause-value : goal.returns-clause-value
unfolding value_at_quantile
returns-clause-value g c =
    let h = c.args.self.now in
    let q : Ratio = (record { num = c.args.percentile.num; den = c.args.percentile.den * 100 }) in
    let rank_is : c.rank_of-rank.result ≡ rank q h.total = rank-read q c.rank_of-rank.result c.num.result (c.from-den.result * 100) c.self.inside.total h.total c.rank_of-rank.ensures.value c.num.ensures (ap (λ d. d * 100) (c.from-den.ensures ∙ c.den.ensures.value)) (ap (λ (p : Plain). p.total) c.self.view_is) in
    c.value_at_rank.ensures ∙ ap (λ n. value_at_bin (resolution h) n (position_of_rank h.counts c.rank_of-rank.result)) c.num-2.ensures
    ∙ ap (λ r. value_at_bin (resolution h) q.num (position_of_rank h.counts r)) rank_is

pub returns-clause-ranked : goal.returns-clause-ranked
returns-clause-ranked g c = λ S stands some share.
    rw (returns-clause-value g c) (quantile-ranked g.T.Counter.greatest c.args.self.now ((record { num = c.args.percentile.num; den = c.args.percentile.den * 100 })) S (rw c.self.view_is at c.self.invariant.plain) (omega (arith, c.den.ensures.not_zero)) stands some share)
