use Rattle.std.proofs.Common.{◌≡◌, ◌∙◌, ◌+◌, ◌<◌, ◌≤◌, length, refl, ap, sym, subst, arith}
use Rattle.hdr_verdict.specs.Samples.{AreHeld}
use Rattle.hdr_verdict.specs.Cells.{AreWithin}
use Rattle.hdr_verdict.specs.Decoders.{intervals_of}
use Rattle.hdr_verdict.proofs.Holding.{as-many}
use Rattle.hdr_verdict.proofs.ClassFacts.{none-decoded, more-decoded}
use Rattle.hdr_verdict.proofs.samples.TagSamples.decode_all.Goals as goal

pub loop-index-init : goal.loop-index-init
loop-index-init c = record {
  keeps = record { intervals = refl; cells = refl; width = refl };
  samples = λ all held are. none-decoded c.args.self.now.width all c.args.first c.clear.new.self.items c.clear.ensures.items;
}

pub loop-index-preserved : goal.loop-index-preserved
loop-index-preserved c =
    let before = c.loop-index.invariant in
    let w = c.args.self.now.width in
    record {
      keeps = record {
        intervals = c.decode.ensures.intervals ∙ before.keeps.intervals;
        cells = before.keeps.cells;
        width = before.keeps.width;
      };
      samples = λ all held are.
          let here = subst (λ l. AreHeld l all) (sym before.keeps.intervals) held in
          let inside : c.loop-index.index < length all = omega (arith, as-many (intervals_of c.args.self.now.decoder) all held, c.loop-index-test.true, c.requires.within) in
          let from : c.args.first ≤ c.loop-index.index = omega arith in
          more-decoded w all c.args.first c.loop-index.index c.in_ok-_bounds._bounds c.loop-index.classes.items c.decode.new.classes.items are from inside (c.in_ok-_bounds.ensures.held all here) (before.samples all held are);
    }
