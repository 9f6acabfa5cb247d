use Rattle.std.proofs.Common.{◌≡◌, List}
use Rattle.hdr_verdict.specs.Decoders.{intervals_of}
use Rattle.hdr_verdict.specs.ClassSamples.{AreClassesOf}
use Rattle.hdr_verdict.specs.Samples.{Held, AreHeld, rounded, width_of, samples_between}
use Rattle.hdr_verdict.specs.TagSamples.{KeepsCells}
use Rattle.hdr_verdict.proofs.samples.TagSamples.decode_all.Given as goal

abbrev pub invariant-loop-index : goal.invariant-loop-index
invariant-loop-index l = record {
  keeps : KeepsCells l.initial.self l.self;
  samples : (all : List Held) → AreHeld (intervals_of l.initial.self.decoder) all → l.initial.self.width ≡ width_of all
      → AreClassesOf l.initial.self.width l.classes.items (rounded l.initial.self.width (samples_between all l.first l.index));
}
