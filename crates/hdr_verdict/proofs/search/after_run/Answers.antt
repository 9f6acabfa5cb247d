use Rattle.std.proofs.Common.{◌≡◌, ◌∙◌, ◌∷◌, [], ℕ, List, ap, sym}
use Rattle.std.proofs.lemmas.Result.{IfOk-weaker}
use Rattle.hdr_verdict.specs.Slow.{Slow, after_run, high_cells, is_rise, rise_of, slow_of_run, value_in, views_of, with_slow, excess_of}
use Rattle.hdr_verdict.specs.TagSamples.{HasSamples}
use Rattle.hdr_verdict.proofs.Keeping.{keeps-samples}
use Rattle.hdr_verdict.proofs.SlowFacts.{run-rises, slow-parts}
use Rattle.hdr_verdict.proofs.search.after_run.Goals as goal

pub returns-clause-found : goal.returns-clause-found
returns-clause-found c =
    let old = c.args.samples.now in
    let test = c.args.test.now in
    let run = c.args.run in
    let value = c.in_ok-value.value in
    let scores = c.args.scored.now.scores.items in
    let explained = c.args.scored.now.explained.items in
    let found = views_of c.args.found.items in
    let slow : Slow = record { run = run; rises = c.in_ok-vec.field-0.items; excess = c.excess_of.result; cells = c.high_cells-cells.result } in
    IfOk-weaker c.with_slow.result (λ all. (cells : List (List ℕ)) → HasSamples c.value_in.new.samples cells → views_of all.items ≡ with_slow test cells value slow found)
    (λ all. (cells : List (List ℕ)) → HasSamples old cells → views_of all.items ≡ after_run test cells explained scores found run)
    (λ all is cells s.
    let here = keeps-samples old c.value_in.new.samples cells c.value_in.ensures.keeps s in
    let many = c.high_cells-cells.ensures ∙ ap (λ l. high_cells l run) c.deref-2.ensures.value in
    let same : slow ≡ slow_of_run test scores value run = slow-parts run c.in_ok-vec.field-0.items (rise_of test value ∷ []) c.excess_of.result (excess_of scores run test.tail.den) c.high_cells-cells.result (high_cells scores run) (c.in_ok-vec.ensures.items ∙ ap (λ r. r ∷ []) c.rise.ensures) (c.excess_of.ensures ∙ ap (λ l. excess_of l run test.tail.den) c.deref-3.ensures.value) many in
    is cells here ∙ ap (λ x. with_slow test cells value x found) same ∙ run-rises test cells explained scores found run value (c.in_ok-value.ensures.value cells s ∙ ap (λ l. value_in test cells l run) c.deref.ensures.value) (ap (λ n. is_rise test n value) (sym many) ∙ sym c.is_rise.ensures ∙ c.if-not-is_rise.false))
    c.with_slow.ensures.found
