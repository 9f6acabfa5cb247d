use Rattle.std.proofs.Common.{◌∙◌, ℕ, ◌-◌, ◌^◌, List, take, slice_index, sym, ap, arith}
use Rattle.std.proofs.lemmas.List.{take_more}
use Rattle.hdr_model.specs.Plain.{Plain}
use Rattle.hdr_model.specs.Recording.{after_record}
use Rattle.hdr_c.specs.Runs.{after_values}
use Rattle.hdr_c.proofs.Runs.{after_values-push}
use Rattle.hdr_c.proofs.recording.record_each.Goals as goal

pub loop-at-preserved : goal.loop-at-preserved
loop-at-preserved c =
    let values = c.args.values.now in
    let at = c.loop-at.at in
    let h = c.args.histogram.now in
    let value = slice_index values at in
    c.in_default.ensures.ok ∙ ap (λ (k : Plain). after_record (2 ^ 64 - 1) k value 1) c.loop-at.invariant
    ∙ sym (after_values-push (take at values) value h) ∙ ap (λ (vs : List ℕ). after_values vs h) (sym (take_more values at 0 (omega arith)))
