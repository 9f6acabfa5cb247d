use Rattle.std.proofs.Common.{◌≡◌, length, take}
use Rattle.std.specs.List.{All, filter_map}
use Rattle.hdr_verdict.specs.Missing.{missing_in, IsTimeWithin}
use Rattle.hdr_verdict.proofs.missing.missing_in_runs.Given as goal

abbrev pub invariant-loop-run : goal.invariant-loop-run
invariant-loop-run l = record {
  so_far : l.times.items ≡ filter_map (missing_in l.rates l.usual) (take l.run-index l.runs);
  within : All (IsTimeWithin (length l.rates)) l.times.items;
}
