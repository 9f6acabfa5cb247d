use Rattle.std.proofs.Common.{◌-◌, subst, arith}
use Rattle.hdr_logs.specs.Scales.{exponent_of, power_of, IsGreatest}
use Rattle.std.proofs.lemmas.Result.{err_from_is_err_and}
use Rattle.hdr_logs.proofs.SomeOf.{mixed}
use Rattle.hdr_logs.proofs.scales.finest_scale.Goals as goal

pub most_decimals-requires : goal.most_decimals-requires
most_decimals-requires c = λ k d inside.
    let all = (c.finest_unit-unit.ensures.exponent (exponent_of c.finest_unit-unit.result)).0 (omega arith) in
    omega (arith, all k d inside, c.exponent_of.ensures.value)

pub returns : goal.returns
returns c = record {
  scale = record {
    finest = c.finest_unit-unit.ensures.exponent;
    most = subst (λ e. IsGreatest (λ s. power_of s - e) c.args.intervals.now c.most_decimals.result) c.exponent_of.ensures.value c.most_decimals.ensures;
    known = c.in_ok-check_known.ensures.known;
  };
  errors = tt;
}

pub returns-in_err-check_known-clause-errors : goal.returns-in_err-check_known-clause-errors
returns-in_err-check_known-clause-errors c =
    let error = c.in_err-check_known.ensures.errors in
    let same = err_from_is_err_and c.from_residual.result c.from_residual.ensures.1 in
    rw (same.1, same.2) (error.0, mixed c.args.intervals.now c.finest_unit-unit.result c.finest_unit-unit.ensures.some c.finest_unit-unit.ensures.none error.1)
