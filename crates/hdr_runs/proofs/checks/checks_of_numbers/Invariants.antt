use Rattle.std.proofs.Common.{◌<◌, ◌^◌, List, length, take}
use Rattle.std.specs.List.{AllZip}
use Rattle.std.specs.Option.{option_map}
use Rattle.hdr_input.specs.Bounds.{HasCounted}
use Rattle.hdr_input.specs.declared.number.Number.{Number}
use Rattle.hdr_runs.specs.LevelChecks.{IsOfTally}
use Rattle.hdr_runs.proofs.checks.checks_of_numbers.Given as goal

-- the checks so far are those of the first levels
abbrev pub invariant-loop-level : goal.invariant-loop-level
invariant-loop-level l =
    (S : List Number) → HasCounted l.tally S → length S < 2 ^ 64
    → AllZip (IsOfTally l.tally S (option_map (λ i. i.now) l.intervals)) (take l.level-index l.levels) l.checks.items
