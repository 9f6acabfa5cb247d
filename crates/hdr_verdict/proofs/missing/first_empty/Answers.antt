use Rattle.std.proofs.Common.{arith, sym}
use Rattle.std.proofs.lemmas.Bool.{eq-eqb}
use Rattle.std.proofs.lemmas.List.Sums.{position_or_len_is}
use Rattle.hdr_verdict.specs.Missing.{is_empty, no_rate}
use Rattle.hdr_verdict.proofs.missing.first_empty.Goals as goal

pub returns-then-rate-eq0 : goal.returns-then-rate-eq0
returns-then-rate-eq0 c =
    sym (position_or_len_is is_empty c.args.rates.now c.loop-index.index no_rate (omega arith) (λ k h. c.loop-index.invariant k no_rate h) (λ h. eq-eqb _ 0 c.if-rate-eq0.true))

pub returns : goal.returns
returns c =
    sym (position_or_len_is is_empty c.args.rates.now _ no_rate (omega arith) (λ k h. c.loop-index.invariant k no_rate (omega arith)) (λ h. absurd (omega arith)))
