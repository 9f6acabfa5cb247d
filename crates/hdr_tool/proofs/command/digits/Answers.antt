use Rattle.hdr_tool.proofs.Common.{◌≡◌, ◌+◌, ◌*◌, ◌<◌, ◌^◌, true, get_or, length, refl, subst, sym, ◌∙◌, arith, is_ascii_digit, digit_value}
use Rattle.hdr_tool.proofs.LinesParts.{left_all}
use Rattle.hdr_tool.proofs.CommandsLines.{AreDigits, one_more_digit, digit_small, digit_less, begins, few_more}
use Rattle.hdr_tool.proofs.command.digits.Goals as goal

pub returns-then-not-is_ascii_digit : goal.returns-then-not-is_ascii_digit
returns-then-not-is_ascii_digit c =
    begins c.args.text.now _ c.loop-at.value _ c.loop-at.at (omega (arith, c.if-at-eq0.false)) (omega (arith, c.loop-at-test.true, c.min-at-end.ensures)) c.loop-at.invariant.reads refl (left_all (c.loop-at.at + 1) c.args.text.now)

pub overflow_mul-value : goal.overflow_mul-value
overflow_mul-value c =
    let few = few_more c.loop-at.at c.loop-at.value 0 (omega (arith, c.loop-at-test.true, c.min-at-end.ensures)) c.loop-at.invariant.small (omega arith) in
    omega (arith, few.1)

pub overflow_add-value : goal.overflow_add-value
overflow_add-value c =
    let digits = c.args.text.now in
    let byte = get_or digits c.loop-at.at 0 in
    let digit : is_ascii_digit byte ≡ true = sym c.is_ascii_digit.ensures.value ∙ c.if-not-is_ascii_digit.false in
    let few = few_more c.loop-at.at c.loop-at.value c.from.result (omega (arith, c.loop-at-test.true, c.min-at-end.ensures)) c.loop-at.invariant.small (omega (arith, c.from.ensures, digit_less byte digit, digit_small byte digit)) in
    omega (arith, few.1)

pub loop-at-preserved : goal.loop-at-preserved
loop-at-preserved c =
    let digits = c.args.text.now in
    let byte = get_or digits c.loop-at.at 0 in
    let digit : is_ascii_digit byte ≡ true = sym c.is_ascii_digit.ensures.value ∙ c.if-not-is_ascii_digit.false in
    let same : digit_value byte ≡ c.from.result = omega (arith, c.from.ensures, digit_less byte digit) in
    let within : c.loop-at.at < length digits = omega (arith, c.loop-at-test.true, c.min-at-end.ensures) in
    let few = few_more c.loop-at.at c.loop-at.value (digit_value byte) (omega (arith, c.loop-at-test.true, c.min-at-end.ensures)) c.loop-at.invariant.small (digit_small byte digit) in
    record {
      reads = subst (λ d. AreDigits digits (c.loop-at.at + 1) (c.loop-at.value * 10 + d)) same (one_more_digit digits c.loop-at.at c.loop-at.value c.loop-at.invariant.reads within digit few.1);
      small = subst (λ d. c.loop-at.value * 10 + d < 10 ^ (c.loop-at.at + 1)) same few.0;
    }
