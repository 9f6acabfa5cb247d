use Rattle.std.proofs.Common.{◌≡◌, ◌∙◌, ◌*◌, ℕ, List, length, map, take_all, get_or, ap, sym}
use Rattle.std.specs.List.{fold}
use Rattle.std.proofs.lemmas.List.Sums.{fold_more}
use Rattle.std.proofs.lemmas.Result.{IfOk-weaker}
use Rattle.hdr_verdict.specs.declared.runs.Run.{Run}
use Rattle.hdr_verdict.specs.Runs.{runs_of}
use Rattle.hdr_verdict.specs.Slow.{after_run, after_test, bar_of, runs_in, inside, views_of, with_value}
use Rattle.hdr_verdict.specs.Tails.{count_above}
use Rattle.hdr_verdict.specs.TagSamples.{HasSamples}
use Rattle.hdr_verdict.proofs.Keeping.{keeps-samples, keeps-both}
use Rattle.hdr_verdict.proofs.SlowFacts.{test-is}
use Rattle.hdr_verdict.proofs.search.after_test.Goals as goal

pub loop-run-preserved : goal.loop-run-preserved
loop-run-preserved c =
    let old = c.args.samples.now in
    let before = c.loop-run.invariant in
    record {
      keeps = keeps-both old c.loop-run.samples c.after_run.new.samples before.keeps c.after_run.ensures.keeps;
      found = λ cells s.
          let here = keeps-samples old c.loop-run.samples cells before.keeps s in
          let runs = c.deref-run-items.result.now in
          let d : Run = record { start = 0; end = 0 } in
          let f = after_run c.args.test.now cells c.in_ok-scored.scored.explained.items c.in_ok-scored.scored.scores.items in
          c.in_ok-found.ensures.found cells here ∙ ap (λ l. f l (get_or runs c.loop-run.run-index d)) (before.found cells s) ∙ sym (fold_more f (views_of c.args.found.items) runs c.loop-run.run-index d c.loop-run-test.true);
    }

pub returns-clause-found : goal.returns-clause-found
returns-clause-found c =
    let old = c.args.samples.now in
    let test = c.args.test.now in
    let before = c.loop-run.invariant in
    let found = views_of c.args.found.items in
    let explained = c.in_ok-scored.scored.explained.items in
    let scores = c.in_ok-scored.scored.scores.items in
    let runs = c.deref-run-items.result.now in
    IfOk-weaker c.with_values.result (λ all. (cells : List (List ℕ)) → HasSamples c.loop-run.samples cells → views_of all.items ≡ map (with_value test cells (runs_in (views_of c.loop-run.found.items))) (views_of c.loop-run.found.items))
    (λ all. (cells : List (List ℕ)) → HasSamples old cells → c.args.above.now ≡ map (count_above test.threshold) cells → views_of all.items ≡ after_test c.args.bar cells found test)
    (λ all is cells s above.
    let here = keeps-samples old c.loop-run.samples cells before.keeps s in
    let whole = before.found cells s ∙ ap (fold (after_run test cells explained scores) found) (take_all c.loop-run.run-index runs c.loop-run-test.false) in
    let first = c.in_ok-scored.ensures.explained cells s ∙ ap (λ l. inside (runs_in (views_of l)) (length cells)) c.deref.ensures.value in
    let sum = c.from.result * c.from-2.result in
    let third : sum ≡ bar_of c.args.bar test.tail = ap (λ n. n * c.from-2.result) c.from.ensures ∙ ap (λ n. c.args.bar * n) c.from-2.ensures in
    let fourth = c.deref-run-items.ensures.value ∙ c.in_ok-runs_of.ensures ∙ ap (runs_of sum) c.deref-2.ensures.value in
    is cells here ∙ ap (λ l. map (with_value test cells (runs_in l)) l) whole
    ∙ test-is c.args.bar sum cells found test explained scores runs first (c.in_ok-scored.ensures.scores cells s above) third fourth)
    c.with_values.ensures.found
