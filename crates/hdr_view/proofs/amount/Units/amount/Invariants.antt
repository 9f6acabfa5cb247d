use Rattle.hdr_view.specs.Amounts.{IsInUnit}
use Rattle.hdr_view.proofs.amount.Units.amount.Given as goal

abbrev pub invariant-loop : goal.invariant-loop
invariant-loop l = IsInUnit l.fn.self.unit l.num l.den l.amount.unit l.amount.num l.amount.den
