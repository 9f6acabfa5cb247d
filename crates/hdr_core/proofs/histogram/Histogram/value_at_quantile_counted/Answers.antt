use Rattle.std.proofs.Common.{◌≡◌, ◌∙◌, ◌*◌, ◌+◌, ◌-◌, length, ap, arith}
use Rattle.hdr_counts.specs.Blocks.{looks}
use Rattle.hdr_base.specs.Fractions.{Ratio}
use Rattle.hdr_model.specs.Plain.{Plain, resolution, block_of}
use Rattle.hdr_model.specs.Quantiles.{rank, position_of_rank, value_at_bin, value_at_quantile}
use Rattle.hdr_model.proofs.QuantilesFirst.{quantile-ranked, rank-read}
use Rattle.std.proofs.lemmas.Nat.{pow_pos}
use Rattle.hdr_base.specs.Classes.{bucket}
use Rattle.hdr_base.proofs.ClassesReach.{bins-blocks}
use Rattle.hdr_model.proofs.PlainKept.{resolution-digits}
use Rattle.hdr_model.proofs.PlainBins.{looks-few}
use Rattle.hdr_model.proofs.QuantilesValues.{looks-most}
use Rattle.hdr_core.proofs.histogram.Histogram.value_at_quantile_counted.Given as given
use Rattle.hdr_core.proofs.histogram.Histogram.value_at_quantile_counted.Goals as goal
use Rattle.hdr_core.proofs.histogram.Histogram.value_at_quantile_counted.Goals.{After-find-place}

-- the class that is found
found : (g : given.Over) (c : After-find-place g) → c.find-place.result ≡ position_of_rank c.args.self.now.counts (rank c.args.quantile c.args.self.now.total)
found g c =
    let q : Ratio = c.args.quantile in
    let rank_is : c.rank_of-rank.result ≡ rank q c.args.self.now.total = rank-read q c.rank_of-rank.result c.num.result c.from.result c.self.inside.total c.args.self.now.total c.rank_of-rank.ensures.value c.num.ensures (c.from.ensures ∙ c.den.ensures.value) (ap (λ (p : Plain). p.total) c.self.view_is) in
    c.find-place.ensures.index ∙ ap (λ r. position_of_rank c.args.self.now.counts r) rank_is

pub returns-clause-value : goal.returns-clause-value
unfolding value_at_quantile
returns-clause-value g c =
    let h = c.args.self.now in
    c.value_at_bin.ensures ∙ ap (λ n. value_at_bin (resolution h) n c.find-place.result) c.num-2.ensures
    ∙ ap (λ o. value_at_bin (resolution h) c.args.quantile.num o) (found g (goal.at.returns-clause-value g c).After-find-place)

pub returns-clause-ranked : goal.returns-clause-ranked
returns-clause-ranked g c = λ S stands some share.
    rw (returns-clause-value g c) (quantile-ranked g.T.Counter.greatest c.args.self.now (c.args.quantile) S (rw c.self.view_is at c.self.invariant.plain) c.den.ensures.not_zero stands some share)

pub returns-clause-looks : goal.returns-clause-looks
returns-clause-looks g c =
    c.find-place.ensures.looks ∙ ap (λ o. c.args.ticks.now + looks (block_of c.args.self.now) (length c.args.self.now.counts) o) (found g (goal.at.returns-clause-looks g c).After-find-place)

pub returns-clause-at_most : goal.returns-clause-at_most
returns-clause-at_most g c =
    let h = c.args.self.now in
    let p = rw c.self.view_is at c.self.invariant.plain in
    omega (
      arith,
      c.find-place.ensures.looks,
      looks-most (block_of h) (length h.counts) (bucket (resolution h) h.high + 2) c.find-place.result
          (pow_pos ((resolution h).digits - 1)) (p.bins ∙ bins-blocks (resolution h) h.high (resolution-digits g.T.Counter.greatest h p) ∙ ap (λ n. n * block_of h) (let e : bucket (resolution h) h.high + 1 + 1 ≡ bucket (resolution h) h.high + 2 = omega arith in e)) c.find-place.ensures.within,
    )

pub returns-clause-bounded : goal.returns-clause-bounded
returns-clause-bounded g c =
    omega (arith, returns-clause-at_most g c, looks-few g.T.Counter.greatest c.args.self.now (rw c.self.view_is at c.self.invariant.plain))
