use Rattle.std.proofs.Common.{◌+◌, ◌≤◌, length, Result}
use Rattle.hdrhistogram.specs.Chosen.{view_of_interval_choice}
use Rattle.hdrhistogram.specs.LogMerging.{Merging, ItemsMerge, Merges}
use Rattle.hdrhistogram.specs.MergeView.{view_of_merging}
use Rattle.hdrhistogram.specs.declared.serialization.interval_log.merge.MergeError.{MergeError}
use Rattle.hdrhistogram.proofs.serialization.interval_log.merge.merge_chosen.Given as goal

-- the rest of the log merges as all of it does, and there are no more intervals than were read
abbrev pub invariant-loop-item : goal.invariant-loop-item
invariant-loop-item g l = record {
  few : l.merging.intervals + length l.item-iterator ≤ length l.fn.log + 1;
  chosen : l.merging.chosen ≤ l.merging.intervals;
  coarser : l.merging.coarser ≤ l.merging.intervals;
  ending : (r : Result Merging MergeError) → ItemsMerge g.T.Counter.greatest (view_of_interval_choice l.fn.choice) l.item-iterator (view_of_merging l.merging) r → Merges g.T.Counter.greatest (view_of_interval_choice l.fn.choice) l.fn.sigfig l.fn.log r;
}
