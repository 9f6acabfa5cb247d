use Rattle.std.proofs.Common.{◌∙◌, inl, sym, subst, arith}
use Rattle.std.specs.List.{All}
use Rattle.std.proofs.lemmas.Result.{err_from_is_err_and}
use Rattle.hdr_logs.specs.Scales.{HaveMixedUnits, IsAsFine}
use Rattle.hdr_logs.proofs.intervals.LogIntervals.factors.Goals as goal

pub factors-requires : goal.factors-requires
factors-requires c =
    let scale = c.in_ok-scale.scale in
    let most = (c.in_ok-scale.ensures.scale.most scale.decimals).0 (omega arith) in
    subst (All (IsAsFine scale.decimals scale.unit)) (c.deref.ensures.value ∙ sym c.deref-2.ensures.value) (λ k d inside. omega (arith, most k d inside))

pub returns-in_err-scale-clause-errors : goal.returns-in_err-scale-clause-errors
returns-in_err-scale-clause-errors c =
    let same = err_from_is_err_and c.from_residual.result c.from_residual.ensures.1 in
    let error = c.in_err-scale.ensures.errors in
    rw (same.1, same.2) (inl (error.0, subst HaveMixedUnits c.deref.ensures.value error.1))
