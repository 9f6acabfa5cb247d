use Rattle.std.proofs.Common.{◌≡◌, map, take}
use Rattle.hdr_figures.specs.Intervals.{first_start, last_end}
use Rattle.hdr_figures.proofs.sums.length_of.Given as goal

abbrev pub invariant-loop-key : goal.invariant-loop-key
invariant-loop-key l = record {
  start : l.start ≡ first_start (map (λ k. k.interval.now) (take l.key-index l.keys));
  end : l.end ≡ last_end (map (λ k. k.interval.now) (take l.key-index l.keys));
}
