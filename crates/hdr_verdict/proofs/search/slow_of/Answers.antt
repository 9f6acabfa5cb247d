use Rattle.std.proofs.Common.{◌≡◌, ◌∙◌, ◌<◌, ◌==◌, true, ℕ, List, [], ◌∷◌, length, map, take, take_all, get_or, refl, ap, sym, subst, arith}
use Rattle.std.specs.List.{AllZip, fold}
use Rattle.std.proofs.lemmas.Bool.Decides.{nat_tests}
use Rattle.std.proofs.lemmas.List.{get_or-map, length-map}
use Rattle.std.proofs.lemmas.List.Sums.{fold_more}
use Rattle.hdr_verdict.specs.declared.slow.Test.{Test}
use Rattle.hdr_verdict.specs.CountsAboveFor.{AreCountsOf}
use Rattle.hdr_verdict.specs.Slow.{after_test, slow_of, views_of}
use Rattle.hdr_verdict.specs.Tails.{count_above}
use Rattle.hdr_verdict.proofs.Keeping.{keeps-samples, keeps-both}
use Rattle.hdr_verdict.proofs.search.slow_of.Goals as goal

pub loop-index-preserved : goal.loop-index-preserved
loop-index-preserved c =
    let old = c.args.samples.now in
    let counted = c.counts_above.new.samples in
    let before = c.loop-index.invariant in
    let tests = c.args.tests.now in
    let i = c.loop-index.index in
    let test = c.index-tests-index.result in
    let values = c.deref.result.now in
    record {
      keeps = keeps-both counted c.loop-index.samples c.after_test.new.samples before.keeps c.after_test.ensures.keeps;
      found = λ cells s.
          let here = keeps-samples counted c.loop-index.samples cells before.keeps (keeps-samples old counted cells c.counts_above.ensures.keeps s) in
          let thresholds = c.deref.ensures.value ∙ c.in_ok-thresholds.ensures in
          let inside : i < length values = omega (arith, ap length thresholds, length-map tests (λ (test : Test). test.threshold), c.loop-index-test.true) in
          let value : get_or values i 0 ≡ test.threshold = ap (λ l. get_or l i 0) thresholds ∙ get_or-map (λ (test : Test). test.threshold) tests i test 0 c.loop-index-test.true ∙ ap (λ (t : Test). t.threshold) (sym c.index-tests-index.is) in
          let all = subst (AllZip (AreCountsOf cells (length cells)) values) (sym c.deref-in-loop-index.ensures.value) (c.in_ok-all.ensures.counts cells s) in
          let above = c.counts_at.ensures cells values all inside ∙ ap (λ v. map (count_above v) cells) value in
          c.in_ok-found.ensures.found cells here above ∙ ap (λ l. after_test c.args.bar cells l test) (before.found cells s) ∙ ap (after_test c.args.bar cells (fold (after_test c.args.bar cells) [] (take i tests))) c.index-tests-index.is
          ∙ sym (fold_more (after_test c.args.bar cells) [] tests i test c.loop-index-test.true);
    }

pub returns-clause-slow : goal.returns-clause-slow
unfolding slow_of
returns-clause-slow c = λ cells s.
    c.loop-index.invariant.found cells s ∙ ap (fold (after_test c.args.bar cells) []) (take_all c.loop-index.index c.args.tests.now c.loop-index-test.false)

-- nothing is slow by no tests
slow-of-none : (bar : ℕ) (cells : List (List ℕ)) (tests : List Test) → (length tests == 0) ≡ true → slow_of bar cells tests ≡ []
unfolding slow_of
slow-of-none bar cells [] none = refl
slow-of-none bar cells (test ∷ tests) none = absurd (grind (arith, nat_tests))

pub returns-then-is_empty-clause-slow : goal.returns-then-is_empty-clause-slow
returns-then-is_empty-clause-slow c = λ cells s.
    ap views_of c.new.ensures.items ∙ sym (slow-of-none c.args.bar cells c.args.tests.now (sym c.is_empty.ensures ∙ c.if-is_empty.true))
