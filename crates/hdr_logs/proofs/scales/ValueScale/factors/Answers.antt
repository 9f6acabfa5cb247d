use Rattle.std.proofs.Common.{◌+◌, ◌^◌, ◌≤◌, ℕ, List, take, take_all, sym, subst, arith}
use Rattle.std.specs.List.{AllZip}
use Rattle.hdr_logs.specs.Scales.{IsFactor, factor_of}
use Rattle.std.proofs.lemmas.Result.{err_from_is_err_and}
use Rattle.hdr_logs.proofs.SomeOf.{any_at}
use Rattle.hdr_logs.proofs.Zips.{zip-more}
use Rattle.hdr_logs.proofs.scales.ValueScale.factors.Goals as goal

pub loop-interval-preserved : goal.loop-interval-preserved
loop-interval-preserved c =
    let R = IsFactor c.args.self.decimals c.args.self.unit in
    subst (AllZip R (take (c.loop-interval.interval-index + 1) c.args.intervals.now)) (sym {A = List ℕ} c.in_ok-push.ensures.items)
    (zip-more R c.args.intervals.now c.loop-interval.factors.items c.loop-interval.interval-index c.interval-item.result c.in_ok-factor.factor c.loop-interval-test.true c.interval-item.is c.loop-interval.invariant c.in_ok-factor.ensures.factor)

pub returns-clause-factors : goal.returns-clause-factors
returns-clause-factors c = subst (λ l. AllZip (IsFactor c.args.self.decimals c.args.self.unit) l c.loop-interval.factors.items) (take_all c.loop-interval.interval-index c.args.intervals.now (omega arith)) c.loop-interval.invariant

pub returns-in_err-factor-clause-errors : goal.returns-in_err-factor-clause-errors
returns-in_err-factor-clause-errors c =
    let error = c.in_err-factor.ensures.errors in
    let same = err_from_is_err_and c.from_residual.result c.from_residual.ensures.1 in
    rw (same.1, same.2, error.0)
    (any_at (λ s. 2 ^ 64 ≤ factor_of c.args.self.decimals c.args.self.unit s) c.args.intervals.now c.loop-interval.interval-index c.interval-item.result c.loop-interval-test.true c.interval-item.is error.1)
