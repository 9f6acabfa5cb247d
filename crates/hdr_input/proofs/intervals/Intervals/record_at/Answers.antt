use Rattle.std.proofs.Common.{◌∙◌, refl}
use Rattle.hdr_input.specs.TimeSlices.{begins_before, begins_by}
use Rattle.hdr_input.proofs.TimeSlices.{list_all-set, list_any-set}
use Rattle.hdr_input.proofs.intervals.Intervals.record_at.Goals as goal

pub invariant_of-self : goal.invariant_of-self
invariant_of-self c =
    let old = c.args.self.now in
    let slices = old.intervals.items in
    let slice = c.in-Some.slice.now in record {
      is_latest = list_all-set (begins_by old.latest) slices c.args.index slice (record slice { histogram = c.record_n_correct.new.self }) c.in-Some.ensures.value refl ∙ old.is_latest;
      is_complete = λ has. list_any-set (begins_before old.latest) slices c.args.index slice (record slice { histogram = c.record_n_correct.new.self }) c.in-Some.ensures.value refl ∙ old.is_complete has;
    }
