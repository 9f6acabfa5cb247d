use Rattle.std.proofs.Common.{◌∙◌, arith, sym}
use Rattle.std.proofs.lemmas.Bool.Decides.{nat_tests}
use Rattle.hdr_model.proofs.MarksWidened.{widened}
use Rattle.hdr_core.proofs.marks.Marks.enclose.Goals as goal

pub returns-then-class-self : goal.returns-then-class-self
returns-then-class-self c = λ yes.
    let m = c.self.inside in
    sym (widened m.classes m.before m.classes m.before c.args.class c.args.self.now (omega (arith, c.self.invariant)) c.requires (omega (arith, c.if-class-self.true)) (grind (arith, nat_tests, yes)) c.self.view_is) ∙ c.self.view_is
