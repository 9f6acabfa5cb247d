use Rattle.std.proofs.Common.{◌↔◌, IsSome}
use Rattle.std.proofs.lemmas.List.Elements.{AllWithin-more, at_read}
use Rattle.std.proofs.lemmas.Result.{err_from_is_err_and}
use Rattle.hdr_logs.specs.Scales.{IsOtherKind}
use Rattle.hdr_logs.proofs.SomeOf.{any_at}
use Rattle.hdr_logs.proofs.scales.check_known.Goals as goal

pub loop-interval-preserved : goal.loop-interval-preserved
loop-interval-preserved c =
    AllWithin-more (λ s. IsSome s.unit ↔ IsSome c.args.unit) c.args.intervals.now 0 c.loop-interval.interval-index c.loop-interval.invariant
    (at_read c.args.intervals.now (λ s. IsSome s.unit ↔ IsSome c.args.unit) c.loop-interval.interval-index c.interval-item.result c.loop-interval-test.true c.interval-item.is c.in_ok-check_one.ensures.known)

pub returns-in_err-check_one-clause-errors : goal.returns-in_err-check_one-clause-errors
returns-in_err-check_one-clause-errors c =
    let error = c.in_err-check_one.ensures.errors in
    let same = err_from_is_err_and c.from_residual.result c.from_residual.ensures.1 in
    rw (same.1, same.2) (
      error.0,
      any_at (λ s. IsOtherKind s.unit c.args.unit) c.args.intervals.now c.loop-interval.interval-index c.interval-item.result c.loop-interval-test.true c.interval-item.is error.1,
    )
