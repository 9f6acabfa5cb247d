use Rattle.std.proofs.Common.{◌≡◌, take}
use Rattle.hdr_c.specs.Runs.{after_values}
use Rattle.hdr_c.proofs.recording.record_each.Given as goal

abbrev pub invariant-loop-at : goal.invariant-loop-at
invariant-loop-at l = l.histogram ≡ after_values (take l.at l.values) l.initial.histogram
