use Rattle.std.proofs.Common.{◌<◌, ◌-◌, ◌^◌, sym, ◌∙◌, arith, inl, inr}
use Rattle.std.proofs.lemmas.Bool.{cases_lt}
use Rattle.hdr_model.specs.Plain.{resolution, reach}
use Rattle.hdr_model.proofs.PlainKept.{resolution-digits}
use Rattle.hdr_summary.proofs.CountsByClass.{between-begins, past-begins}
use Rattle.hdr_summary.proofs.classes.count_begun.Goals as goal

pub returns-in-Some-clause-samples : goal.returns-in-Some-clause-samples
returns-in-Some-clause-samples c = λ S stands. (
    let h = c.args.histogram.now in
    c.count_between.ensures.samples S stands (omega arith) c.in-Some.ensures.value.0
    ∙ between-begins (resolution h) (resolution-digits (2 ^ 64 - 1) h c.bin_of.ensures.plain) c.args.value S
    )

pub returns-in-None-clause-samples : goal.returns-in-None-clause-samples
returns-in-None-clause-samples c = λ S stands. (
    let h = c.args.histogram.now in
    let past : reach h < c.args.value = elim (cases_lt (reach h) c.args.value) [ inl lt ↦ lt | inr le ↦ absurd (c.in-None.ensures.value le) ] in
    c.len.ensures ∙ stands.total ∙ sym (past-begins (resolution h) (reach h) c.args.value S stands.within past)
    )
