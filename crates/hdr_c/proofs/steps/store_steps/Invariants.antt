use Rattle.std.proofs.Common.{◌≡◌, ◌-◌, ◌≤◌, length, drop}
use Rattle.hdr_c.specs.Steps.{AreStored, item_values, item_counts}
use Rattle.hdr_c.proofs.steps.store_steps.Given as goal

abbrev pub invariant-loop-done : goal.invariant-loop-done
invariant-loop-done g l = record {
  left : drop l.done l.initial.items ≡ l.items;
  within : l.done ≤ length l.initial.items;
  room : l.done ≤ l.room;
  values : AreStored (item_values l.initial.items) l.done l.initial.values l.values;
  counts : AreStored (item_counts l.initial.items) l.done l.initial.counts l.counts;
}

abbrev pub decreases-loop-done : goal.decreases-loop-done
decreases-loop-done g l = l.room - l.done
