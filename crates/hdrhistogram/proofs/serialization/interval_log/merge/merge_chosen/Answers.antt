use Rattle.std.proofs.Common.{Ok, refl}
use Rattle.hdr_log.specs.Reading.{view_of_timed_item}
use Rattle.hdrhistogram.specs.Chosen.{view_of_interval_choice}
use Rattle.hdrhistogram.proofs.FieldMerging.{step_failed}
use Rattle.hdrhistogram.specs.MergeView.{view_of_merging}
use Rattle.hdrhistogram.proofs.serialization.interval_log.merge.merge_chosen.Goals as goal

pub returns-clause-ok : goal.returns-clause-ok
returns-clause-ok g c = (
  c.in-Ok.ensures.made.1,
  (c.loop-item.merging.intervals, c.loop-item.invariant.ending (Ok (view_of_merging c.loop-item.merging)) (rw c.in-None.ensures.steps.0 refl)),
)

pub returns-in-Err-merge_item-clause-err : goal.returns-in-Err-merge_item-clause-err
returns-in-Err-merge_item-clause-err g c =
    step_failed g.T.Counter.greatest (view_of_interval_choice c.args.choice.now) c.args.sigfig c.args.log.now (view_of_merging c.loop-item.merging) (view_of_timed_item c.in-Some.item) c.next.new.self c.in-Err-merge_item.error
    c.in-Ok.ensures.made.1 (λ r merges. c.loop-item.invariant.ending r (rw c.in-Some.ensures.steps merges)) c.in-Err-merge_item.ensures.err
