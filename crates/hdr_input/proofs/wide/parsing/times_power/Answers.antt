use Rattle.std.proofs.Common.{◌≡◌, ◌+ℤ◌, to_z, of_z, w64, FitsSigned, arith, rules}
use Rattle.std.proofs.lemmas.Int.{ints, to_z-of_z}
use Rattle.hdr_input.proofs.Exponents.{scaled_stands}
use Rattle.hdr_input.proofs.wide.parsing.times_power.Goals as goal

pub returns : goal.returns
returns c = λ near few x h. (
    let fits : FitsSigned w64 c.args.number.exponent = search rules in
    let same : to_z w64 (of_z w64 c.args.number.exponent) ≡ c.args.number.exponent = to_z-of_z w64 c.args.number.exponent fits in
    let same_power : to_z w64 (of_z w64 c.args.exponent) ≡ c.args.exponent = to_z-of_z w64 c.args.exponent c.ranges.exponent in
    let value : c.sum_of.result ≡ to_z w64 (of_z w64 c.args.number.exponent) +ℤ to_z w64 (of_z w64 c.args.exponent) = c.sum_of.ensures (rw same near) (rw same_power few) in
    let e : to_z w64 (of_z w64 c.sum_of.result) ≡ c.args.number.exponent +ℤ c.args.exponent = omega (arith, ints, value, same, same_power) in
    scaled_stands c.args.number x c.args.exponent _ h e
    )
