use Rattle.std.proofs.Common.{◌≡◌, ◌∙◌, ◌+◌, ◌<◌, ◌≤◌, ◌^◌, ◌++◌, length, ap, subst, arith, min}
use Rattle.hdr_model.specs.Plain.{resolution}
use Rattle.hdr_model.specs.Quantiles.{ranked_sample}
use Rattle.hdr_verdict.specs.Samples.{Rounds, classes_of}
use Rattle.hdr_verdict.specs.Slow.{samples_in, kept}
use Rattle.hdr_verdict.proofs.Keeping.{keeps-samples, keeps-both, many-cells}
use Rattle.hdr_verdict.proofs.CellSamples.{kept-more, kept-few, run-ends}
use Rattle.hdr_verdict.proofs.samples.TagSamples.value_in.Goals as goal

pub loop-index-preserved : goal.loop-index-preserved
loop-index-preserved c =
    let before = c.loop-index.invariant in
    let w = c.args.self.now.width in
    record {
      none = λ le. (let at = before.none le in let many = ap length c.cells.ensures in absurd (omega (arith, at, many, c.min-index-end.ensures, c.loop-index-test.true)));
      keeps = keeps-both c.args.self.now c.loop-index.self c.add_kept.new.self before.keeps c.add_kept.ensures.keeps;
      classes = c.add_kept.ensures.classes ∙ before.classes;
      samples = λ cells s.
          let here = keeps-samples c.args.self.now c.loop-index.self cells before.keeps s in
          let inside : c.loop-index.index < length cells = omega (arith, many-cells c.args.self.now cells s, ap length c.cells.ensures, c.min-index-end.ensures, c.loop-index-test.true) in
          let from : c.args.run.start ≤ c.loop-index.index = omega arith in
          let few = kept-few cells c.args.left_out.now c.args.run.start c.loop-index.index from inside in
          let S = samples_in cells c.args.left_out.now (record { start = c.args.run.start; end = c.loop-index.index }) in
          let add = subst (λ v. resolution c.loop-index.sum ≡ classes_of v → Rounds v c.loop-index.sum S → length S + length (kept cells c.args.left_out.now c.loop-index.index) < 2 ^ 64 → Rounds v c.add_kept.new.sum (S ++ kept cells c.args.left_out.now c.loop-index.index)) before.keeps.width
          (c.in_ok-add_kept.ensures.samples cells S here) in
          subst (Rounds w c.add_kept.new.sum) (kept-more cells c.args.left_out.now c.args.run.start c.loop-index.index from) (add before.classes (before.samples cells s) (omega (arith, few, s.fits)));
    }

pub returns-clause-value : goal.returns-clause-value
returns-clause-value c = λ cells s pos proper.
    let before = c.loop-index.invariant in
    let start = c.args.run.start in
    let left = c.args.left_out.now in
    let S = samples_in cells left (record { start = start; end = c.loop-index.index }) in
    let value = subst (λ v. resolution c.loop-index.sum ≡ classes_of v → Rounds v c.loop-index.sum S → c.value.result ≡ ranked_sample c.args.quantile S) before.keeps.width (λ same r. c.value.ensures S same r pos proper) in
    let many = many-cells c.args.self.now cells s in
    let whole = run-ends cells left start c.args.run.end c.loop-index.index (omega arith)
    (λ le. (let now : min c.args.run.end (length c.args.self.now.cells.items) ≤ start = omega (arith, le, many) in before.none now))
    (λ lt. omega (arith, lt, many, c.min-index-end.ensures, ap length c.cells.ensures, c.loop-index-test.false)) in
    value before.classes (before.samples cells s) ∙ ap (ranked_sample c.args.quantile) whole
