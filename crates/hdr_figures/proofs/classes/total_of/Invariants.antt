use Rattle.std.proofs.Common.{◌≡◌, ◌-◌, ◌^◌, min, take}
use Rattle.std.specs.List.{sum_by}
use Rattle.hdr_figures.proofs.classes.total_of.Given as goal

abbrev pub invariant-loop-class : goal.invariant-loop-class
invariant-loop-class l = l.total ≡ min (sum_by (λ class. class.count) (take l.class-index l.classes)) (2 ^ 64 - 1)
