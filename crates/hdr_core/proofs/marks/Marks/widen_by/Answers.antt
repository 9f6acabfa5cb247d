use Rattle.std.proofs.Common.{◌≡◌, ◌∙◌, Option, ℕ, ap, arith}
use Rattle.hdr_model.specs.Marks.{MarkPair, top_by, lower_by, later_of, earlier_of}
use Rattle.hdr_model.proofs.MarksWidened.{top-later_of, lower-earlier_of}
use Rattle.hdr_core.proofs.marks.Marks.widen_by.Goals as goal

pub returns : goal.returns
returns c =
    let m = c.self.inside in
    let n = c.other.inside in
    let top : top_by c.max-classes.result ≡ later_of (top_by m.classes) (top_by n.classes) = top-later_of m.classes n.classes c.max-classes.result c.max-classes.ensures in
    let lower : lower_by c.min-before.result ≡ earlier_of (lower_by m.before) (lower_by n.before) =
    lower-earlier_of m.before n.before c.min-before.result (omega (arith, c.self.invariant)) (omega (arith, c.other.invariant)) c.min-before.ensures in
    c.self-2.view_is ∙ c.kept.ensures
    ∙ ap (λ (o : Option ℕ). record { top = o; lower = lower_by c.min-before.result }) top
    ∙ ap (λ (o : Option ℕ). record { top = later_of (top_by m.classes) (top_by n.classes); lower = o }) lower
    ∙ ap (λ (v : MarkPair). record { top = later_of v.top (top_by n.classes); lower = earlier_of v.lower (lower_by n.before) }) c.self.view_is
    ∙ ap (λ (v : MarkPair). record { top = later_of c.args.self.now.top v.top; lower = earlier_of c.args.self.now.lower v.lower }) c.other.view_is
