use Rattle.std.proofs.Common.{◌≡◌, true, false, pos, neg_ℤ, ◌-ℤ◌, ◌∙◌, sym, to_z, of_z, w64, arith}
use Rattle.std.proofs.lemmas.Int.{ints}
use Rattle.hdr_log.specs.Parts.{is_digits}
use Rattle.hdr_input.proofs.Exponents.{no_integer, negative, nonnegative}
use Rattle.hdr_input.proofs.wide.parsing.exponent.Goals as goal

pub returns-then-not-is_digits-clause-value : goal.returns-then-not-is_digits-clause-value
returns-then-not-is_digits-clause-value c =
    no_integer c.args.text.now c.split_sign-is_negative.result.1.now c.split_sign-is_negative.ensures.rest (sym c.is_digits.ensures ∙ c.if-not-is_digits.true)

pub returns-then-is_negative-clause-value : goal.returns-then-is_negative-clause-value
returns-then-is_negative-clause-value c =
    let all : is_digits c.split_sign-is_negative.result.1.now ≡ true = sym c.is_digits.ensures ∙ c.if-not-is_digits.false in
    let same : to_z w64 (of_z w64 (pos 0 -ℤ to_z w64 c.magnitude-value.result)) ≡ neg_ℤ (pos c.magnitude-value.result) = omega (arith, ints, c.magnitude-value.ensures.bound) in
    negative c.args.text.now c.split_sign-is_negative.result.1.now c.magnitude-value.result _ (sym c.split_sign-is_negative.ensures.sign ∙ c.if-is_negative.true) c.split_sign-is_negative.ensures.rest all (c.magnitude-value.ensures.value all) same

pub returns-else-is_negative-clause-value : goal.returns-else-is_negative-clause-value
returns-else-is_negative-clause-value c =
    let all : is_digits c.split_sign-is_negative.result.1.now ≡ true = sym c.is_digits.ensures ∙ c.if-not-is_digits.false in
    let same : to_z w64 c.magnitude-value.result ≡ pos c.magnitude-value.result = omega (arith, ints, c.magnitude-value.ensures.bound) in
    nonnegative c.args.text.now c.split_sign-is_negative.result.1.now c.magnitude-value.result _ (sym c.split_sign-is_negative.ensures.sign ∙ c.if-is_negative.false) c.split_sign-is_negative.ensures.rest all (c.magnitude-value.ensures.value all) same
