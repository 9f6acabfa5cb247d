use Rattle.std.proofs.Common.{◌≡◌, ◌-◌, ◌^◌, length, min, take}
use Rattle.hdr_verdict.specs.ClassSamples.{values_of}
use Rattle.hdr_verdict.proofs.decoder.total_of.Given as goal

abbrev pub invariant-loop-class : goal.invariant-loop-class
invariant-loop-class l = l.total ≡ min (length (values_of (take l.class-index l.classes))) (2 ^ 64 - 1)
