use Rattle.std.proofs.Common.{◌∙◌, ◌<◌, ap, sym, arith, inl, inr}
use Rattle.std.proofs.lemmas.Bool.{cases_lt}
use Rattle.hdr_model.specs.Plain.{Plain, reach}
use Rattle.hdr_model.proofs.RecordingClears.{clamped-same, clamped-past, high-within}
use Rattle.hdr_core.proofs.histogram.Histogram.clamped.Goals as goal

pub returns-in-Some-clause-value : goal.returns-in-Some-clause-value
returns-in-Some-clause-value g c = sym (clamped-same c.args.self.now c.args.value c.in-Some.ensures.value.0)

pub returns-in-None-clause-value : goal.returns-in-None-clause-value
returns-in-None-clause-value g c =
    let past : reach c.args.self.now < c.args.value = elim (cases_lt (reach c.args.self.now) c.args.value) [ inl lt ↦ lt | inr le ↦ absurd (c.in-None.ensures.value le) ] in
    ap (λ (h : Plain). h.high) c.self.view_is ∙ sym (clamped-past c.args.self.now c.args.value past)

pub returns-in-None-clause-within : goal.returns-in-None-clause-within
returns-in-None-clause-within g c = omega (arith, ap (λ (h : Plain). h.high) c.self.view_is, high-within c.args.self.now)
