use Rattle.std.proofs.Common.{◌∙◌, arith}
use Rattle.hdr_model.proofs.MarksWidened.{widened}
use Rattle.hdr_core.proofs.marks.Marks.widen_to.Goals as goal

pub returns : goal.returns
returns c =
    let m = c.self.inside in
    c.self-2.view_is ∙ c.kept.ensures
    ∙ widened _ _ m.classes m.before c.args.class c.args.self.now (omega (arith, c.self.invariant)) c.requires (omega (arith, c.max-classes.ensures)) (omega (arith, c.min-before.ensures)) c.self.view_is
