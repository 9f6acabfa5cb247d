use Rattle.std.proofs.Common.{◌≡◌, ◌+◌, ◌<◌, ◌^◌, ◌&&◌, ◌==◌, ◌++◌, true, false, length, Option, Some, None, IfSome, ap, sym, ◌∙◌, arith}
use Rattle.std.specs.Char.{is_ascii_digit}
use Rattle.std.specs.List.{list_all}
use Rattle.hdr_input.specs.declared.number.Number.{Number}
use Rattle.hdr_input.specs.declared.wide.Wide.{Wide}
use Rattle.hdr_input.specs.Decimals.{decimal_of, HasDigitsOf, with_digits}
use Rattle.hdr_input.proofs.CutDigits.{number, no_digits, no_decimal, empty_sides, no_whole, fraction_none, fraction_some}
use Rattle.hdr_input.proofs.wide.parsing.mantissa.Goals as goal

pub returns-then-are_empty-clause-none : goal.returns-then-are_empty-clause-none
returns-then-are_empty-clause-none c =
    no_decimal c.args.text.now c.split_at_point.result.0.now c.split_at_point.result.1.now c.split_at_point.ensures.before c.split_at_point.ensures.after (empty_sides c.split_at_point.result.0.now c.split_at_point.result.1.now (sym c.are_empty.ensures ∙ c.if-are_empty.true))

pub returns-in_err-number-clause-none : goal.returns-in_err-number-clause-none
returns-in_err-number-clause-none c =
    let none : decimal_of c.args.text.now ≡ None = no_whole c.args.text.now c.split_at_point.result.0.now c.split_at_point.result.1.now c.split_at_point.ensures.before c.split_at_point.ensures.after (sym c.are_empty.ensures ∙ c.if-are_empty.false) c.in_err-number.ensures.none in
    rw c.from_residual.ensures none

pub returns-clause-none : goal.returns-clause-none
returns-clause-none c =
    fraction_none c.with_digits-2.result c.args.text.now c.split_at_point.result.0.now c.split_at_point.result.1.now c.split_at_point.ensures.before c.split_at_point.ensures.after (sym c.are_empty.ensures ∙ c.if-are_empty.false) c.with_digits-2.ensures.none

-- the bounds on the exponents
later : (o : Option Wide) (a b : Wide → Type 0) → ((w : Wide) → a w → b w) → IfSome o a → IfSome o b
later None a b f h = tt
later (Some w) a b f h = f w h

pub returns-clause-value : goal.returns-clause-value
returns-clause-value c =
    let whole = c.split_at_point.result.0.now in
    let fraction = c.split_at_point.result.1.now in
    fraction_some c.with_digits-2.result c.args.text.now whole fraction c.split_at_point.ensures.before c.split_at_point.ensures.after (sym c.are_empty.ensures ∙ c.if-are_empty.false) c.in_ok-number.ensures.some c.with_digits-2.ensures.some
    (later c.with_digits-2.result _ _ (λ w h short. h (omega (arith, short, c.in_ok-number.ensures.bound, c.split_at_point.ensures.length)) (with_digits (number 0 0) whole false) (c.in_ok-number.ensures.value (omega (arith, short, c.split_at_point.ensures.length)) (number 0 0) no_digits)) c.with_digits-2.ensures.value)
