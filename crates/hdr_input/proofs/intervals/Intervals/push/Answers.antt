use Rattle.std.proofs.Common.{◌≡◌, true, ap, ◌∙◌, arith}
use Rattle.std.specs.Result.{is_ok}
use Rattle.std.specs.List.{list_all, list_any}
use Rattle.std.proofs.lemmas.Bool.Decides.{nat_tests}
use Rattle.hdr_input.specs.TimeSlices.{begins_before, begins_by}
use Rattle.hdr_input.proofs.TimeSlices.{list_all-pushed, list_any-pushed}
use Rattle.hdr_input.proofs.intervals.Intervals.push.Goals as goal

pub invariant_of-self-2 : goal.invariant_of-self-2
invariant_of-self-2 c =
    let old = c.args.self.now in
    let by : begins_by old.latest c.args.slice ≡ true = grind (arith, nat_tests) in record {
      is_latest = ap (list_all (begins_by old.latest)) c.push.ensures.items ∙ list_all-pushed (begins_by old.latest) (is_ok c.push.result) old.intervals.items c.args.slice by old.is_latest;
      is_complete = λ has. ap (list_any (begins_before old.latest)) c.push.ensures.items ∙ list_any-pushed (begins_before old.latest) (is_ok c.push.result) old.intervals.items c.args.slice (old.is_complete has);
    }
