use Rattle.std.proofs.Common.{◌≡◌, pos, ◌+ℤ◌, ◌<◌, not, unsigned_abs, to_z, of_z, w64, FitsSigned, arith, rules}
use Rattle.std.specs.Prelude.{if◌then◌else◌}
use Rattle.std.proofs.lemmas.Int.{ints, to_z-of_z}
use Rattle.hdr_input.proofs.CutDigits.{with_cut}
use Rattle.hdr_input.proofs.wide.parsing.without_digit.Goals as goal

pub returns-clause-value : goal.returns-clause-value
returns-clause-value c = λ near large x h. (
    let fits : FitsSigned w64 c.args.number.exponent = search rules in
    let same : to_z w64 (of_z w64 c.args.number.exponent) ≡ c.args.number.exponent = to_z-of_z w64 c.args.number.exponent fits in
    let value : c.raised.result ≡ to_z w64 (of_z w64 c.args.number.exponent) +ℤ pos (if not c.args.is_fraction then 1 else 0) = c.raised.ensures.value (rw same near) in
    let e : to_z w64 (of_z w64 c.raised.result) ≡ c.args.number.exponent +ℤ pos (if not c.args.is_fraction then 1 else 0) = omega (arith, ints, value, same) in
    with_cut c.args.number x c.args.digit c.args.is_fraction _ c.is_cut_after.result c.requires large h e c.is_cut_after.ensures
    )
