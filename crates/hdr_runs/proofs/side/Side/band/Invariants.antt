use Rattle.std.specs.List.{All}
use Rattle.hdr_runs.specs.Bands.{IsBandPointOf}
use Rattle.hdr_runs.proofs.side.Side.band.Given as goal

abbrev pub invariant-loop : goal.invariant-loop
invariant-loop l = All (IsBandPointOf l.self) l.band.items
