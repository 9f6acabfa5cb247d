use Rattle.std.proofs.Common.{◌≡◌, ◌≤◌, ℕ, List, length, min}
use Rattle.hdr_model.specs.Plain.{resolution}
use Rattle.hdr_verdict.specs.Samples.{Rounds, classes_of}
use Rattle.hdr_verdict.specs.Slow.{samples_in}
use Rattle.hdr_verdict.specs.TagSamples.{HasSamples, KeepsCells}
use Rattle.hdr_verdict.proofs.samples.TagSamples.value_in.Given as goal

abbrev pub invariant-loop-index : goal.invariant-loop-index
invariant-loop-index l = record {
  none : min l.fn.run.end (length l.initial.self.cells.items) ≤ l.fn.run.start → l.index ≡ l.fn.run.start;
  keeps : KeepsCells l.initial.self l.self;
  classes : resolution l.sum ≡ classes_of l.initial.self.width;
  samples : (cells : List (List ℕ)) → HasSamples l.initial.self cells
      → Rounds l.initial.self.width l.sum (samples_in cells l.left_out (record { start = l.fn.run.start; end = l.index }));
}
