use Rattle.std.proofs.Common.{◌≤◌}
use Rattle.std.specs.List.{All}
use Rattle.hdr_page.proofs.charts.detail.curve_of.Given as goal

abbrev pub invariant-loop : goal.invariant-loop
invariant-loop l = All (λ p. p.x ≤ l.width) l.curve.items
