use Rattle.std.proofs.Common.{◌≡◌, ◌+◌, ◌*◌, ◌≤◌, ◌^◌, ◌∙◌, get_or, subst, sym, arith}
use Rattle.std.specs.Char.{digit_value}
use Rattle.hdr_log.proofs.PartsNumbers.{Reads, Reads-more, number_of-too_great, number_of-Reads}
use Rattle.hdr_log.proofs.parts.number.Goals as goal

pub returns-in_err-value : goal.returns-in_err-value
returns-in_err-value c =
    let text = c.args.text.now in
    let i = c.loop-byte.byte-index in
    let great : 2 ^ 64 ≤ c.loop-byte.value * 10 + digit_value (get_or text i 0) = omega (arith, c.in_err-value.ensures, c.in_ok-digit.ensures) in
    c.from_residual-in_err-value.ensures ∙ number_of-too_great text i c.loop-byte.value c.loop-byte-test.true c.loop-byte.invariant.spelled great

pub loop-byte-preserved : goal.loop-byte-preserved
loop-byte-preserved c =
    let text = c.args.text.now in
    let i = c.loop-byte.byte-index in
    let e : c.loop-byte.value * 10 + digit_value (get_or text i 0) ≡ c.in_ok-value.value = omega (arith, c.in_ok-value.ensures, c.in_ok-digit.ensures) in
    subst (λ n. Reads text (i + 1) n) e (Reads-more text i c.loop-byte.value c.loop-byte.invariant c.loop-byte-test.true c.in_ok-digit.ensures.value.0 (omega (arith, c.in_ok-value.ensures, c.in_ok-digit.ensures)))

pub returns : goal.returns
returns c =
    number_of-Reads c.args.text.now c.loop-byte.byte-index c.loop-byte.value (sym c.is_empty.ensures ∙ c.if-is_empty.false) c.loop-byte-test.false c.loop-byte.invariant
