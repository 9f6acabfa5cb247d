use Rattle.std.proofs.Common.{◌∙◌, ◌+◌, ◌<◌, ◌++◌, ◌∷◌, [], ℕ, false, length, map, get_or, ap, sym, subst, arith}
use Rattle.std.specs.List.{All, range_with_len}
use Rattle.std.proofs.lemmas.List.{length_push}
use Rattle.std.proofs.lemmas.List.Elements.{All-push}
use Rattle.std.proofs.lemmas.List.FromFn.{map-range_with_len_more}
use Rattle.hdr_verdict.specs.declared.score.Score.{Score}
use Rattle.hdr_verdict.specs.Runs.{Fits}
use Rattle.hdr_verdict.specs.Slow.{score_of}
use Rattle.hdr_verdict.proofs.SlowFacts.{as-many-cells, samples-at, above-at}
use Rattle.hdr_verdict.proofs.search.scores_of.Goals as goal

pub loop-index-preserved : goal.loop-index-preserved
loop-index-preserved c =
    let before = c.loop-index.invariant in
    let i = c.loop-index.index in
    let test = c.args.test.now in
    let explained = c.args.explained.now in
    let cells = c.args.cells.now in
    record {
      scores = λ all samples above.
          let f : ℕ → Score = λ i. score_of test (get_or explained i false) (get_or all i []) in
          let inside : i < length all = omega (arith, as-many-cells cells all samples, c.loop-index-test.true) in
          let cell = get_or all i [] in
          let one = c.score.ensures.score cell (c.count_at-above.ensures ∙ above-at test.threshold c.args.above.now all i above inside) (samples-at cells all i (record { start = 0; end = 0; last = 0; samples = 0; first = 0; next = 0 }) samples c.loop-index-test.true) in
          c.in_ok-push.ensures.items ∙ ap (λ l. l ++ c.score.result ∷ []) (before.scores all samples above) ∙ ap (λ s. map f (range_with_len 0 i) ++ s ∷ []) (one ∙ ap (λ b. score_of test b cell) c.is_set.ensures) ∙ sym (map-range_with_len_more f 0 i i (omega arith));
      fit = subst (All Fits) (sym c.in_ok-push.ensures.items) (All-push Fits c.loop-index.scores.items c.score.result before.fit c.score.ensures.fits);
      many = ap length c.in_ok-push.ensures.items ∙ length_push c.loop-index.scores.items c.score.result ∙ ap (λ n. n + 1) before.many;
    }
