use Rattle.std.proofs.Common.{◌≡◌, ℕ, List, map, take}
use Rattle.hdr_verdict.specs.TagSamples.{HasSamples, KeepsCells, cells_of}
use Rattle.hdr_verdict.specs.Verdicts.{times_over}
use Rattle.hdr_verdict.proofs.verdict.over_levels.Given as goal

abbrev pub invariant-loop-level : goal.invariant-loop-level
invariant-loop-level l = record {
  keeps : KeepsCells l.initial.samples l.samples;
  over : (cells : List (List ℕ)) → HasSamples l.initial.samples cells → map (λ over. over.items) l.all.items ≡ map (times_over l.bar (cells_of l.initial.samples) cells) (take l.level-index l.levels);
}
