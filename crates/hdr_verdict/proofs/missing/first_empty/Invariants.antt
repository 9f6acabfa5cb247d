use Rattle.std.proofs.Common.{◌≡◌, ℕ, ◌<◌, false, get_or}
use Rattle.hdr_verdict.specs.declared.rate.Rate.{Rate}
use Rattle.hdr_verdict.specs.Missing.{is_empty}
use Rattle.hdr_verdict.proofs.missing.first_empty.Given as goal

abbrev pub invariant-loop-index : goal.invariant-loop-index
invariant-loop-index l = (k : ℕ) (d : Rate) → k < l.index → is_empty (get_or l.rates k d) ≡ false
