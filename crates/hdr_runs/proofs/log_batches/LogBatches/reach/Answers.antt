use Rattle.std.proofs.Common.{◌≡◌, ℕ, ◌+◌, List, [], ◌∷◌, ◌++◌, length, refl, sym, ap, ◌∙◌, subst, rules, arith, append_assoc}
use Rattle.std.proofs.lemmas.List.{append-nil, length_push}
use Rattle.std.proofs.lemmas.List.Elements.{All-nil, All-push}
use Rattle.hdr_compare.specs.declared.batching.Batching.{Batching}
use Rattle.hdr_runs.specs.SumBatches.{IsWithoutSamples, digits_of_sums}
use Rattle.hdr_runs.proofs.log_batches.LogBatches.reach.Goals as goal

pub returns-clause-sums : goal.returns-clause-sums
returns-clause-sums c =
    let inv = c.loop.invariant in
    record {
      others = inv.2.0;
      sums = inv.2.1;
      none = inv.2.2;
      within = omega (arith, inv.0, c.loop-test.false, c.saturating_add-end.ensures, c.loop.self.sums.small, c.loop.self.sums.ok);
    }

pub loop-init : goal.loop-init
loop-init c = (search (rules, c.len-counter.ensures), refl, ([], sym (append-nil _), All-nil _))

pub loop-preserved : goal.loop-preserved
loop-preserved c =
    let inv = c.loop.invariant in
    let more = c.in_ok-push_sum.ensures.sums in
    let old = c.args.self.now.sums.items in
    let P : ℕ → Type 0 = λ n. IsWithoutSamples n more.0 in
    let long : c.loop.counter + 1 ≡ length c.push_sum.new.self.sums.items = omega (arith, ap length more.2, length_push c.loop.self.sums.items more.0, inv.0) in (
      long,
      c.in_ok-push_sum.ensures.digits ∙ inv.1,
      (
        inv.2.0 ++ more.0 ∷ [],
        more.2 ∙ ap (λ (l : List Batching). l ++ more.0 ∷ []) inv.2.1 ∙ append_assoc old inv.2.0 (more.0 ∷ []),
        All-push (IsWithoutSamples (digits_of_sums c.args.self.now)) inv.2.0 more.0 inv.2.2 (subst P inv.1 more.1),
      ),
    )
