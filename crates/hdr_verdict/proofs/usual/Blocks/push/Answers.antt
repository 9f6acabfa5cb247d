use Rattle.std.proofs.Common.{◌≡◌, ◌∙◌, ◌++◌, [], length, get_or, ap, sym, subst, refl, arith}
use Rattle.hdr_verdict.specs.declared.usual.Blocks.{Blocks}
use Rattle.std.specs.List.{AllZip}
use Rattle.hdr_verdict.specs.Blocks.{AppendsBlock}
use Rattle.hdr_verdict.specs.ClassSamples.{AreClassesOf}
use Rattle.hdr_verdict.specs.Samples.{Rounds, classes_of}
use Rattle.hdr_verdict.proofs.Rounding.{total-rounds}
use Rattle.hdr_verdict.proofs.BlockFacts.{pushed-short, pushed-full, same-tails, since-fits}
use Rattle.hdr_verdict.proofs.usual.Blocks.push.Goals as goal

pub returns-then-from-self : goal.returns-then-from-self
returns-then-from-self c = record {
  tails = refl;
  blocks = λ width cells total n inside fits cell b.
      let old = c.args.self.now in
      let here = subst (λ w. AreClassesOf w c.args.cell.now (get_or cells n [])) (sym b.same_width) cell in
      let classes = b.classes ∙ ap classes_of (sym b.same_width) in
      let part = c.in_ok-add.ensures.samples b.since (get_or cells n []) classes (subst (λ w. Rounds w old.part b.since) (sym b.same_width) b.part) here (since-fits width cells total n old b inside fits) in
      let count : c.len.result ≡ length (b.since ++ get_or cells n []) = c.len.ensures ∙ total-rounds old.width c.add.new.sum (b.since ++ get_or cells n []) part in
      let new : Blocks = record old { part = c.add.new.sum } in
      pushed-short width cells total n old new b inside refl refl refl (c.in_ok-add.ensures.classes ∙ b.classes) (subst (λ w. Rounds w c.add.new.sum (b.since ++ get_or cells n [])) b.same_width part) (omega (arith, count, c.from.ensures, c.if-from-self.true));
}

pub returns : goal.returns
returns c = record {
  tails = same-tails c.args.self.now.width c.add.new.sum c.args.self.now.tails.items c.finish.new.self.tails.items c.in_ok-finish.ensures.values;
  blocks = λ width cells total n inside fits cell b.
      let old = c.args.self.now in
      let new = c.finish.new.self in
      let T = b.since ++ get_or cells n [] in
      let here = subst (λ w. AreClassesOf w c.args.cell.now (get_or cells n [])) (sym b.same_width) cell in
      let classes = b.classes ∙ ap classes_of (sym b.same_width) in
      let part = c.in_ok-add.ensures.samples b.since (get_or cells n []) classes (subst (λ w. Rounds w old.part b.since) (sym b.same_width) b.part) here (since-fits width cells total n old b inside fits) in
      let count : c.len.result ≡ length T = c.len.ensures ∙ total-rounds old.width c.add.new.sum T part in
      let whole = c.in_ok-add.ensures.classes ∙ b.classes in
      pushed-full width cells total n old new c.add.new.sum b inside whole (subst (λ w. Rounds w c.add.new.sum T) b.same_width part) c.in_ok-finish.ensures.least c.in_ok-finish.ensures.width c.in_ok-finish.ensures.classes
      (subst (λ w. Rounds w new.part []) b.same_width (c.in_ok-finish.ensures.part (c.in_ok-add.ensures.classes ∙ classes))) (subst (λ w. AllZip (AppendsBlock w c.add.new.sum) old.tails.items new.tails.items) b.same_width c.in_ok-finish.ensures.values)
      (omega (arith, count, c.from.ensures, c.if-from-self.false));
}
