use Rattle.std.proofs.Common.{◌≡◌, ◌∙◌, ◌+◌, ◌-◌, ◌<◌, ◌^◌, ℕ, List, [], length, map, drop, get_or, min, refl, ap, sym, subst, arith}
use Rattle.std.specs.List.{AllZip, sum_by}
use Rattle.std.proofs.lemmas.Result.{IfOk-weaker}
use Rattle.hdr_verdict.specs.declared.tail.Tail.{Tail}
use Rattle.hdr_verdict.specs.declared.cell.Cell.{Cell}
use Rattle.hdr_verdict.specs.ClassSamples.{AreClassesOf}
use Rattle.hdr_verdict.specs.Blocks.{IsUsualOf, Pushes, values_of}
use Rattle.hdr_verdict.specs.Usual.{usual_of}
use Rattle.hdr_verdict.specs.TagSamples.{HasSamples, width_of_tag, cells_of}
use Rattle.hdr_verdict.proofs.Keeping.{keeps-samples, keeps-both, many-cells, total-is}
use Rattle.hdr_logs.proofs.Changed.{refilled}
use Rattle.hdr_verdict.proofs.BlockFacts.{AreBlocksFor, begun-for, pushed-for, usual-for}
use Rattle.hdr_verdict.proofs.usual_values.usual_by_blocks.Goals as goal

pub loop-index-preserved : goal.loop-index-preserved
loop-index-preserved c =
    let old = c.args.samples.now in
    let before = c.loop-index.invariant in
    record {
      keeps = keeps-both old c.loop-index.samples c.decode.new.self before.keeps c.decode.ensures.keeps;
      blocks = λ cells s.
          let here = keeps-samples old c.loop-index.samples cells before.keeps s in
          let inside : c.loop-index.index < length cells = omega (arith, many-cells old cells s, ap length c.cells-index-end.ensures, c.loop-index-test.true) in
          let are = subst (λ w. AreClassesOf w c.decode.new.classes.items (get_or cells c.loop-index.index [])) before.keeps.width (c.in_ok-decode.ensures.samples cells here) in
          let here-are = subst (λ l. AreClassesOf (width_of_tag old) l (get_or cells c.loop-index.index [])) (sym c.deref.ensures.value) are in
          let total = min (sum_by (λ (cell : Cell). cell.samples) (cells_of old)) (2 ^ 64 - 1) in
          let pushed = subst (λ l. AllZip (Pushes c.deref.result.now) l c.push_cell.new.all) c.deref_mut.ensures.value c.in_ok-push_cell.ensures in
          let both = pushed-for (width_of_tag old) cells total c.loop-index.index c.deref.result.now c.args.tails.now c.loop-index.all.items c.push_cell.new.all inside s.fits here-are (before.blocks cells s) pushed in
          let many : length c.push_cell.new.all ≡ c.loop-index.all.len = omega (arith, c.push_cell.auto.all, c.deref_mut.ensures.len) in
          subst (AreBlocksFor (width_of_tag old) cells total (c.loop-index.index + 1) c.args.tails.now) (sym (refilled c.loop-index.all.len c.push_cell.new.all (drop (length c.push_cell.new.all) c.loop-index.all.items) many)) both;
    }

pub returns-clause-usual : goal.returns-clause-usual
returns-clause-usual c =
    let old = c.args.samples.now in
    let total = min (sum_by (λ (cell : Cell). cell.samples) (cells_of old)) (2 ^ 64 - 1) in
    IfOk-weaker c.usual_of_all.result (λ usual. AllZip IsUsualOf (values_of c.loop-index.all.items) usual.items)
    (λ usual. (cells : List (List ℕ)) → HasSamples old cells → usual.items ≡ map (λ (tail : Tail). usual_of tail.num tail.den (sum_by length cells) cells) c.args.tails.now)
    (λ usual is cells s.
    let at : c.loop-index.index ≡ length cells = omega (arith, many-cells old cells s, ap length c.cells-index-end.ensures, c.loop-index-test.false) in
    usual-for (width_of_tag old) cells total c.loop-index.index c.args.tails.now c.loop-index.all.items usual.items at (c.loop-index.invariant.blocks cells s) is
    ∙ ap (λ n. map (λ (tail : Tail). usual_of tail.num tail.den n cells) c.args.tails.now) (total-is old cells s))
    c.usual_of_all.ensures

pub loop-index-init : goal.loop-index-init
loop-index-init c = record {
  keeps = record { intervals = refl; cells = refl; width = refl };
  blocks = λ cells s. begun-for (width_of_tag c.args.samples.now) cells (min (sum_by (λ (cell : Cell). cell.samples) (cells_of c.args.samples.now)) (2 ^ 64 - 1)) c.args.tails.now c.in_ok-all.all.items c.in_ok-all.ensures;
}
