use Rattle.std.proofs.Common.{◌≡◌, ◌-◌, ◌^◌, min, arith}
use Rattle.hdr_input.specs.Decimals.{decimals_of}
use Rattle.hdr_input.proofs.RoundedWide.{exact_some, exact_error}
use Rattle.hdr_input.proofs.wide.Wide.exact.Goals as goal

pub returns-then-decimals-le-MOST_DECIMALS-clause-value : goal.returns-then-decimals-le-MOST_DECIMALS-clause-value
returns-then-decimals-le-MOST_DECIMALS-clause-value c =
    let is : c.decimals-decimals.result ≡ min (decimals_of c.args.self.exponent) (2 ^ 32 - 1) = c.decimals-decimals.ensures in
    let few = c.if-decimals-le-MOST_DECIMALS.true in
    exact_some c.rounded.result c.args.self c.decimals-decimals.result (omega (arith, is, few)) c.if-decimals-le-MOST_DECIMALS.true c.rounded.ensures.decimals c.rounded.ensures.bound c.rounded.ensures.value

pub returns-then-decimals-le-MOST_DECIMALS-clause-errors : goal.returns-then-decimals-le-MOST_DECIMALS-clause-errors
returns-then-decimals-le-MOST_DECIMALS-clause-errors c =
    exact_error c.rounded.result c.args.self c.decimals-decimals.result c.if-decimals-le-MOST_DECIMALS.true c.rounded.ensures.errors

pub returns-then-is_zero-clause-errors : goal.returns-then-is_zero-clause-errors
returns-then-is_zero-clause-errors c =
    exact_error c.rounded-then-is_zero.result c.args.self 18 (omega arith) c.rounded-then-is_zero.ensures.errors
