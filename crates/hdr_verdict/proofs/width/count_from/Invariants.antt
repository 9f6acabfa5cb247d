use Rattle.std.proofs.Common.{◌≡◌, ◌-◌, ◌^◌, count_by, leb, min, take}
use Rattle.hdr_verdict.specs.ClassSamples.{values_of}
use Rattle.hdr_verdict.proofs.width.count_from.Given as goal

abbrev pub invariant-loop-class : goal.invariant-loop-class
invariant-loop-class l = l.count ≡ min (count_by (leb l.first) (values_of (take l.class-index l.classes))) (2 ^ 64 - 1)
