use Rattle.std.proofs.Common.{◌≡◌, ◌<◌, drop, map}
use Rattle.hdrhistogram.specs.ClassesRead.{times_of}
use Rattle.hdr_figures.proofs.ClassRanks.{found}
use Rattle.hdr_figures.proofs.classes.value_of_rank.Given as goal

abbrev pub invariant-loop-class : goal.invariant-loop-class
invariant-loop-class l = record {
  some : 0 < l.rank;
  rest : found l.rank (map times_of (drop l.class-index l.classes)) ≡ found l.initial.rank (map times_of l.classes);
}
