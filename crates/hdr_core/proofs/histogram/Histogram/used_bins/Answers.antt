use Rattle.std.proofs.Common.{◌≡◌, ◌∙◌, ap, sym, subst, arith, Some, None, length}
use Rattle.hdr_model.specs.Marks.{IsAbove}
use Rattle.hdr_model.specs.Plain.{Plain}
use Rattle.hdr_model.proofs.MergingKeeps.{mark-in}
use Rattle.hdr_core.proofs.histogram.Histogram.used_bins.Goals as goal

pub returns-in-None-clause-rest : goal.returns-in-None-clause-rest
returns-in-None-clause-rest g c = λ i le.
    let q = rw c.self.view_is at c.self.invariant.plain in
    let mark : c.args.self.now.top_mark ≡ None = sym (ap (λ (p : Plain). p.top_mark) c.self.view_is) ∙ sym c.top.ensures ∙ c.in-None.is in
    q.none_above i (subst (λ o. IsAbove o i) (sym mark) tt)

pub returns-in-Some-clause-rest : goal.returns-in-Some-clause-rest
returns-in-Some-clause-rest g c = λ i le.
    let s = c.args.self.now in
    let bin = c.in-Some.bin in
    let q = rw c.self.view_is at c.self.invariant.plain in
    let same : length c.self.inside.counts.numbers ≡ length s.counts = ap (λ (p : Plain). length p.counts) c.self.view_is in
    let mark : s.top_mark ≡ Some bin = sym (ap (λ (p : Plain). p.top_mark) c.self.view_is) ∙ sym c.top.ensures ∙ c.in-Some.is in
    q.none_above i (subst (λ o. IsAbove o i) (sym mark) (omega (arith, le, c.min.ensures, c.len.ensures.value, same, mark-in g.T.Counter.greatest s bin q mark)))
