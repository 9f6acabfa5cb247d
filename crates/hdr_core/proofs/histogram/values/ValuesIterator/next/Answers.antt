use Rattle.std.proofs.Common.{◌≡◌, ◌<◌, false, ◌∷◌, length, map, sym, ap, ◌∙◌, subst, arith}
use Rattle.hdr_model.specs.Plain.{resolution}
use Rattle.hdr_model.specs.Quantiles.{rank, is_below, per, position_of_rank, value_at_bin, value_at_quantile, quantiles_from}
use Rattle.hdr_model.proofs.QuantilesAscend.{rank-per-rises, values-more, values-end, values-none}
use Rattle.hdr_core.proofs.histogram.values.ValuesIterator.next.Given as given
use Rattle.hdr_core.proofs.histogram.values.ValuesIterator.next.Goals as goal
use Rattle.hdr_core.proofs.histogram.values.ValuesIterator.next.Goals.{Joined-else-total-gt0, else-total-gt0-via-then-total-gt0+else-is_below, else-total-gt0-via-else-total-gt0}

-- a quantile whose value is yielded is not below the one before it
rising : (g : given.Over) (c : Joined-else-total-gt0 g) → 0 < c.self.inside.histogram.now.total → is_below c.in_ok-first.first.now c.self.inside.last ≡ false
rising g c some = elim c.else-total-gt0.branch [
  | else-total-gt0-via-then-total-gt0+else-is_below w ↦ sym w.is_below.ensures ∙ w.if-is_below.false
  | else-total-gt0-via-else-total-gt0 w ↦ absurd (omega (arith, some, w.if-total-gt0.false, c.len-total.ensures))
]

pub next_position-place-requires : goal.next_position-place-requires
next_position-place-requires g c =
    let s = c.self.inside in
    let rank_is : c.rank_of-rank.result ≡ rank (per s.whole c.in_ok-first.first.now) s.histogram.now.total = rw (c.num-num.ensures, c.from.ensures, c.den-den.ensures.value, c.from-2.ensures, c.len-total.ensures) at c.rank_of-rank.ensures.value in
    omega (arith, c.self.invariant.6, rank-per-rises s.histogram.now s.whole s.last c.in_ok-first.first.now c.self.invariant.1 c.self.invariant.3 c.den-den.ensures.not_zero (rising g (goal.at.next_position-place-requires g c).Joined-else-total-gt0), rank_is)

pub returns-then-is_below-clause-steps : goal.returns-then-is_below-clause-steps
returns-then-is_below-clause-steps g c =
    let s = c.self.inside in
    let h = s.histogram.now in
    let q = c.in_ok-first.first.now in
    let some : 0 < h.total = omega (arith, c.if-total-gt0.true, c.len-total.ensures) in (
      sym c.self.view_is ∙ (ap (λ qs. quantiles_from h (per s.whole s.last) (map (per s.whole) qs)) c.in_ok-first.ensures.cases.0
          ∙ values-end h s.whole s.last q (map (per s.whole) c.in_ok-first.rest.now) c.self.invariant.1 some (sym c.is_below.ensures ∙ c.if-is_below.true)),
      values-none h (per s.whole s.last),
    )

pub returns-clause-steps : goal.returns-clause-steps
unfolding value_at_quantile
returns-clause-steps g c =
    let s = c.self.inside in
    let h = s.histogram.now in
    let q = c.in_ok-first.first.now in
    let w = s.whole in
    let qs = map (per w) c.in_ok-first.rest.now in
    let rank_is : c.rank_of-rank.result ≡ rank (per w q) h.total = rw (c.num-num.ensures, c.from.ensures, c.den-den.ensures.value, c.from-2.ensures, c.len-total.ensures) at c.rank_of-rank.ensures.value in
    let answer_is : c.value_at_rank.result ≡ value_at_quantile h (per w q) = c.value_at_rank.ensures ∙ ap (λ n. value_at_bin (resolution h) n (position_of_rank h.counts c.rank_of-rank.result)) c.num-num.ensures ∙ ap (λ r. value_at_bin (resolution h) q.num (position_of_rank h.counts r)) rank_is in
    rw (c.from-3.ensures, c.from-4.ensures, c.num-num.ensures, c.den-den.ensures.value)
    (sym c.self.view_is ∙ (ap (λ rs. quantiles_from h (per w s.last) (map (per w) rs)) c.in_ok-first.ensures.cases.0
    ∙ (values-more h w s.last q qs c.self.invariant.1 (rising g (goal.at.returns-clause-steps g c).Joined-else-total-gt0) ∙ ap (λ x. x ∷ quantiles_from h (per w q) qs) (sym answer_is))))

pub returns-clause-goes : goal.returns-clause-goes
returns-clause-goes g c = record {
  on = λ _. (tt, tt, subst (λ l. length (quantiles_from c.self.inside.histogram.now (per c.self.inside.whole (record { num = c.from-3.result; den = c.from-4.result })) (map (per c.self.inside.whole) c.in_ok-first.rest.now)) < length l) (sym (returns-clause-steps g c)) (omega arith));
  keeps = tt;
  rests = λ _. tt;
}
