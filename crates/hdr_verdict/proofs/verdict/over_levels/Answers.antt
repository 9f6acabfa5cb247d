use Rattle.std.proofs.Common.{◌≡◌, ◌∙◌, ◌+◌, ◌++◌, ◌∷◌, [], ℕ, List, Option, Vec, Global, map, take, take_all, ap, sym}
use Rattle.std.proofs.lemmas.List.{map_push, take_more}
use Rattle.hdr_verdict.specs.TagSamples.{cells_of}
use Rattle.hdr_verdict.specs.Verdicts.{times_over}
use Rattle.hdr_verdict.specs.declared.cell.Cell.{Cell}
use Rattle.hdr_verdict.specs.declared.level.TailLevel.{TailLevel}
use Rattle.hdr_verdict.specs.declared.verdict.Span.{Span}
use Rattle.hdr_verdict.proofs.Keeping.{keeps-both, keeps-samples}
use Rattle.hdr_verdict.proofs.verdict.over_levels.Goals as goal

abbrev items_of : Vec Span Global → List Span
items_of over = over.items

pub loop-level-preserved : goal.loop-level-preserved
loop-level-preserved c =
    let old = c.args.samples.now in
    let before = c.loop-level.invariant in
    record {
      keeps = keeps-both old c.loop-level.samples c.times_over.new.samples before.keeps c.times_over.ensures.keeps;
      over = λ cells s.
          let here = keeps-samples old c.loop-level.samples cells before.keeps s in
          let f : Option TailLevel → List Span = times_over c.args.bar (cells_of old) cells in
          let i = c.loop-level.level-index in
          let levels = c.args.levels.now in
          let level = c.level-item.result in
          let over = c.in_ok-times_over.field-0 in
          let front : take (i + 1) levels ≡ take i levels ++ level ∷ [] = take_more levels i level c.loop-level-test.true ∙ ap (λ t. take i levels ++ t ∷ []) (sym c.level-item.is) in
          let one : items_of over ≡ f level = c.in_ok-times_over.ensures.over cells here ∙ ap (λ (l : List Cell). times_over c.args.bar l cells level) before.keeps.cells in
          ap (map items_of) c.in_ok-push.ensures.items ∙ map_push items_of c.loop-level.all.items over ∙ ap (λ l. l ++ items_of over ∷ []) (before.over cells s)
          ∙ ap (λ x. map f (take i levels) ++ x ∷ []) one ∙ sym (map_push f (take i levels) level) ∙ ap (map f) (sym front);
    }

pub returns-clause-over : goal.returns-clause-over
returns-clause-over c = λ cells s.
    let f : Option TailLevel → List Span = times_over c.args.bar (cells_of c.args.samples.now) cells in
    c.loop-level.invariant.over cells s ∙ ap (map f) (take_all c.loop-level.level-index c.args.levels.now c.loop-level-test.false)
