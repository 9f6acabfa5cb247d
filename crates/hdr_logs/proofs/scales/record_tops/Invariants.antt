use Rattle.std.proofs.Common.{◌≡◌, ◌-◌, ◌^◌, map, take}
use Rattle.hdr_model.specs.Recording.{after_records}
use Rattle.hdrhistogram.specs.ClassesRead.{times_of}
use Rattle.hdr_logs.specs.Scales.{top_times}
use Rattle.hdr_logs.proofs.scales.record_tops.Given as goal

-- the classes so far are recorded
abbrev pub invariant-loop-class : goal.invariant-loop-class
invariant-loop-class l = l.sum ≡ after_records (2 ^ 64 - 1) l.initial.sum (map (λ class. top_times l.scale l.factor (times_of class)) (take l.class-index l.classes))
