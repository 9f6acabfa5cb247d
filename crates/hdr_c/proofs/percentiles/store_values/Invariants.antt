use Rattle.hdr_c.specs.Fractions.{AreValues}
use Rattle.hdr_c.proofs.percentiles.store_values.Given as goal

abbrev pub invariant-loop-at : goal.invariant-loop-at
invariant-loop-at l = AreValues l.histogram l.nums l.den l.at l.initial.values l.values
