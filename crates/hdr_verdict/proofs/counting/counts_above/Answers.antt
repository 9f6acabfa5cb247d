use Rattle.std.proofs.Common.{◌≡◌, ◌∙◌, ◌+◌, ◌<◌, ◌^◌, ℕ, List, [], length, drop, get_or, ap, sym, subst, arith}
use Rattle.std.specs.List.{AllZip}
use Rattle.std.proofs.lemmas.List.Sums.{sum_by_more_le}
use Rattle.hdr_verdict.specs.ClassSamples.{AreClassesOf}
use Rattle.hdr_verdict.specs.CountsAboveFor.{AreCountsOf, PushesCell}
use Rattle.hdr_verdict.specs.TagSamples.{width_of_tag}
use Rattle.hdr_verdict.proofs.Keeping.{keeps-samples, keeps-both, many-cells}
use Rattle.hdr_logs.proofs.Zips.{zip-map}
use Rattle.hdr_logs.proofs.Changed.{refilled}
use Rattle.hdr_verdict.proofs.CountFacts.{counted-for}
use Rattle.hdr_verdict.proofs.counting.counts_above.Goals as goal

pub loop-index-preserved : goal.loop-index-preserved
loop-index-preserved c =
    let old = c.args.samples.now in
    let before = c.loop-index.invariant in
    record {
      keeps = keeps-both old c.loop-index.samples c.decode.new.self before.keeps c.decode.ensures.keeps;
      counts = λ cells s.
          let here = keeps-samples old c.loop-index.samples cells before.keeps s in
          let inside : c.loop-index.index < length cells = omega (arith, many-cells old cells s, ap length c.cells-index-end.ensures, c.loop-index-test.true) in
          let width : c.width.result ≡ width_of_tag c.loop-index.samples = c.width.ensures.width ∙ c.decode.ensures.keeps.width in
          let are = subst (λ w. AreClassesOf w c.decode.new.classes.items (get_or cells c.loop-index.index [])) (sym width) (c.in_ok-decode.ensures.samples cells here) in
          let few : length (get_or cells c.loop-index.index []) < 2 ^ 64 = omega (arith, sum_by_more_le {X = List ℕ} length cells c.loop-index.index [] inside, s.fits) in
          let pushed = subst (λ l. AllZip (PushesCell c.width.result c.deref.result.now) l c.push_cell.new.all) c.deref_mut.ensures.value c.in_ok-push_cell.ensures in
          let both = zip-map (AreCountsOf cells c.loop-index.index) (AreCountsOf cells (c.loop-index.index + 1)) (PushesCell c.width.result c.deref.result.now) c.args.values.now c.loop-index.all.items c.push_cell.new.all
          (λ value one two r p. counted-for c.width.result cells c.loop-index.index c.deref.result.now value one two inside (subst (λ l. AreClassesOf c.width.result l (get_or cells c.loop-index.index [])) (sym c.deref.ensures.value) are) few r p) (before.counts cells s) pushed in
          let many : length c.push_cell.new.all ≡ c.loop-index.all.len = omega (arith, c.push_cell.auto.all, c.deref_mut.ensures.len) in
          subst (AllZip (AreCountsOf cells (c.loop-index.index + 1)) c.args.values.now) (sym (refilled c.loop-index.all.len c.push_cell.new.all (drop (length c.push_cell.new.all) c.loop-index.all.items) many)) both;
    }

pub returns-clause-counts : goal.returns-clause-counts
returns-clause-counts c = λ cells s.
    let at : c.loop-index.index ≡ length cells = omega (arith, many-cells c.args.samples.now cells s, ap length c.cells-index-end.ensures, c.loop-index-test.false) in
    subst (λ n. AllZip (AreCountsOf cells n) c.args.values.now c.loop-index.all.items) at (c.loop-index.invariant.counts cells s)
