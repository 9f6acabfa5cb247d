use Rattle.std.proofs.Common.{◌<◌, take}
use Rattle.std.specs.List.{All}
use Rattle.hdr_view.specs.declared.naming.NamedIncidents.{NamedIncidents}
use Rattle.hdr_view.proofs.naming.are_lighter.Given as goal

abbrev pub invariant-loop-line : goal.invariant-loop-line
invariant-loop-line l = All (λ (line : NamedIncidents). l.index < line.heaviest) (take l.line-index l.lines)
