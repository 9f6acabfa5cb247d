use Rattle.std.proofs.Common.{◌≡◌, map, take}
use Rattle.std.specs.List.{AllZip}
use Rattle.hdr_runs.specs.LogCounts.{IsLevelOf}
use Rattle.hdr_runs.proofs.log_counts.LogCounts.parsed.Given as goal

-- the levels so far are those of the first texts
abbrev pub invariant-loop-text : goal.invariant-loop-text
invariant-loop-text l = record {
  texts : map (λ level. level.text.now) l.levels.items ≡ map (λ text. text.now) (take l.text-index l.texts);
  levels : AllZip (λ text level. IsLevelOf l.asked l.unit text.now level) (take l.text-index l.texts) l.levels.items;
}
