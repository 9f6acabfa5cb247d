use Rattle.std.proofs.Common.{◌∙◌, get_or, ap, sym, arith}
use Rattle.std.proofs.lemmas.Bool.Decides.{nat_tests}
use Rattle.hdr_base.proofs.ClassesLaws.{ltb-to}
use Rattle.hdr_model.specs.Plain.{Plain}
use Rattle.hdr_model.proofs.RecordingClears.{min-empty, min-first, min-later, ltb-none}
use Rattle.hdr_core.proofs.histogram.Histogram.min.Goals as goal
use Rattle.hdr_core.proofs.histogram.Histogram.min.Goals.{then-self-eq0, else-self-eq0}

pub returns-then-as_u64-gt0 : goal.returns-then-as_u64-gt0
returns-then-as_u64-gt0 g c =
    let h = c.args.self.now in
    elim c.if-self-eq0.branch [
      | then-self-eq0 w ↦ min-empty h (sym (ap (λ (p : Plain). p.total) c.self.view_is) ∙ w.if-self-eq0.true)
      | else-self-eq0 w ↦
          min-first h (omega (arith, ltb-to 0 w.as_u64.result (sym w.value-is ∙ c.if-as_u64-gt0.true), w.as_u64.ensures.value, w.get.ensures, ap (λ (p : Plain). get_or p.counts 0 0) c.self.view_is))
    ]

pub returns-else-as_u64-gt0 : goal.returns-else-as_u64-gt0
returns-else-as_u64-gt0 g c =
    let h = c.args.self.now in
    c.min_nz.ensures ∙ elim c.if-self-eq0.branch [
      | then-self-eq0 w ↦ absurd (grind (arith, nat_tests, w.value-is, w.if-self-eq0.true, c.if-as_u64-gt0.false))
      | else-self-eq0 w ↦
          min-later h (λ e. w.if-self-eq0.false (ap (λ (p : Plain). p.total) c.self.view_is ∙ e))
          (omega (arith, ltb-none w.as_u64.result (sym w.value-is ∙ c.if-as_u64-gt0.false), w.as_u64.ensures.value, w.get.ensures, ap (λ (p : Plain). get_or p.counts 0 0) c.self.view_is))
    ]
