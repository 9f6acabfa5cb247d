use Rattle.std.proofs.Common.{◌≡◌, None, to_z, of_z, w64, FitsSigned, subst, arith}
use Rattle.std.specs.Prelude.{option_map}
use Rattle.std.proofs.lemmas.Int.{to_z-of_z, fits_signed_from_abs}
use Rattle.hdr_input.specs.Decimals.{number_of, times_power, StandsFor}
use Rattle.hdr_input.proofs.Exponents.{no_number, no_power, a_number}
use Rattle.hdr_input.proofs.wide.parsing.parse_wide.Goals as goal

pub returns-in_err-number-clause-none : goal.returns-in_err-number-clause-none
returns-in_err-number-clause-none c =
    let none : number_of c.args.text.now ≡ None = no_number c.args.text.now c.split_at_e.result.0.now c.split_at_e.ensures.before c.in_err-number.ensures.none in
    rw c.from_residual.ensures none

pub returns-in_err-exponent-clause-none : goal.returns-in_err-exponent-clause-none
returns-in_err-exponent-clause-none c =
    let x = c.in_ok-number.ensures.value in
    let none : number_of c.args.text.now ≡ None = no_power c.args.text.now c.split_at_e.result.0.now (option_map (λ r. r.now) c.split_at_e.result.1) x.0 c.split_at_e.ensures.before c.split_at_e.ensures.after x.1 c.in_err-exponent.ensures.value in
    rw c.from_residual-in_err-exponent.ensures none

pub returns-clause-value : goal.returns-clause-value
returns-clause-value c =
    let x = c.in_ok-number.ensures.value in
    let e = c.in_ok-exponent.exponent in
    let few = c.in_ok-exponent.ensures.bound in
    let fits : FitsSigned w64 e = fits_signed_from_abs w64 e (omega (arith, few)) in
    let same : to_z w64 (of_z w64 e) ≡ e = to_z-of_z w64 e fits in (
      times_power x.0 e,
      a_number c.args.text.now c.split_at_e.result.0.now (option_map (λ r. r.now) c.split_at_e.result.1) x.0 e c.split_at_e.ensures.before c.split_at_e.ensures.after x.1 c.in_ok-exponent.ensures.value,
      λ short. subst (λ z. StandsFor c.times_power.result (times_power x.0 z)) same
          (c.times_power.ensures (omega (arith, short, c.in_ok-number.ensures.bound, c.split_at_e.ensures.length)) (rw same few) x.0 (x.2 (omega (arith, short, c.split_at_e.ensures.length)))),
    )
