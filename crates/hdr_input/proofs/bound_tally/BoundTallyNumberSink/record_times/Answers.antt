use Rattle.std.proofs.Common.{◌≡◌, ◌∷◌, replicate, ap, sym, ◌∙◌, subst}
use Rattle.hdr_input.specs.Bounds.{Counts}
use Rattle.hdr_input.specs.BoundLaws.{missing_of, repeated}
use Rattle.hdr_input.proofs.CountingSteps.{on_ok}
use Rattle.hdr_input.proofs.WideCounts.{copies_repeated, none_missing}
use Rattle.hdr_input.proofs.bound_tally.BoundTallyNumberSink.record_times.Goals as goal

pub returns-then-self-eq0-clause-number : goal.returns-then-self-eq0-clause-number
returns-then-self-eq0-clause-number c = on_ok c.record_copies.result c.record_copies.ensures.counted (λ copies. record {
  copies = λ _. copies;
  each = λ x h few.
      let old = c.args.self.now in
      let alone : repeated c.args.times (x ∷ missing_of old x) ≡ replicate c.args.times x
      = ap (λ l. repeated c.args.times (x ∷ l)) (none_missing old x c.if-self-eq0.true) ∙ copies_repeated x c.args.times in
      subst (λ l. Counts old l c.record_copies.new.self) (sym alone) (copies x h);
})

pub returns-else-self-eq0-clause-number : goal.returns-else-self-eq0-clause-number
returns-else-self-eq0-clause-number c = on_ok c.record_each.result c.record_each.ensures.counted (λ each. record {
  copies = λ none. absurd (c.if-self-eq0.false none);
  each = each;
})

pub returns-then-self-eq0-clause-tally : goal.returns-then-self-eq0-clause-tally
returns-then-self-eq0-clause-tally c = λ none some. on_ok c.record_copies.result c.record_copies.ensures.tally (λ takes. takes some)
