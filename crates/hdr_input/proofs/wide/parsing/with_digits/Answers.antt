use Rattle.std.proofs.Common.{◌≡◌, ◌+◌, ◌-◌, ◌<◌, ◌&&◌, true, take, length, get_or, ap, sym, ◌∙◌, arith}
use Rattle.std.specs.Char.{is_ascii_digit, digit_value}
use Rattle.std.specs.List.{list_all}
use Rattle.std.proofs.lemmas.List.Folds.{list_all_more}
use Rattle.hdr_input.specs.Decimals.{with_digits}
use Rattle.hdr_input.proofs.CutDigits.{digit_is, one_more}
use Rattle.hdr_input.proofs.wide.parsing.with_digits.Goals as goal

pub loop-byte-preserved : goal.loop-byte-preserved
loop-byte-preserved c =
    let text = c.args.text.now in
    let i = c.loop-byte.byte-index in
    let before = c.loop-byte.invariant in
    let within : i < length text = c.loop-byte-test.true in
    let digit : is_ascii_digit (get_or text i 0) ≡ true = sym c.is_ascii_digit.ensures.value ∙ c.if-not-is_ascii_digit.false in
    record {
      digits = list_all_more is_ascii_digit text i 0 within ∙ ap (λ b. b && is_ascii_digit (get_or text i 0)) before.digits ∙ digit;
      bound = omega (arith, before.bound, c.with_digit-number.ensures.bound);
      value = λ few x h. one_more c.with_digit-number.result x text i (get_or text i 0 - 48) c.args.is_fraction within (digit_is (get_or text i 0) digit) (c.with_digit-number.ensures.value (omega (arith, few, before.bound, within)) (with_digits x (take i text) c.args.is_fraction) (before.value few x h));
    }
