use Rattle.std.proofs.Common.{◌≡◌, ◌-◌, ◌^◌, map, take}
use Rattle.hdr_model.specs.Recording.{after_records}
use Rattle.hdrhistogram.specs.ClassesRead.{times_of}
use Rattle.hdr_figures.proofs.classes.record_all.Given as goal

abbrev pub invariant-loop-class : goal.invariant-loop-class
invariant-loop-class l = l.sum ≡ after_records (2 ^ 64 - 1) l.initial.sum (map times_of (take l.class-index l.classes))
