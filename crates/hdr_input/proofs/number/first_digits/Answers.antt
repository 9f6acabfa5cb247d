use Rattle.std.proofs.Common.{◌≡◌, ◌<◌, ◌+◌, ◌*◌, ◌^◌, length, take, get_or, subst, arith}
use Rattle.std.specs.Char.{digit_value}
use Rattle.hdr_input.proofs.Digits.{Reads, Reads-more, few_more, split_at}
use Rattle.hdr_input.proofs.number.first_digits.Goals as goal

pub overflow_mul-value : goal.overflow_mul-value
overflow_mul-value c =
    let few = few_more (c.args.before + c.loop-at.at) c.loop-at.value 0 (omega (arith, c.loop-at-test.true, c.min-most.ensures, c.requires.few)) c.loop-at.invariant.small (omega arith) in
    omega (arith, few.1)

pub overflow_add-value : goal.overflow_add-value
overflow_add-value c =
    let few = few_more (c.args.before + c.loop-at.at) c.loop-at.value c.in-Some.digit (omega (arith, c.loop-at-test.true, c.min-most.ensures, c.requires.few)) c.loop-at.invariant.small c.in-Some.ensures.bound in
    omega (arith, few.1)

pub loop-at-preserved : goal.loop-at-preserved
loop-at-preserved c =
    let text = c.args.text.now in
    let i = c.loop-at.at in
    let value = c.loop-at.value in
    let few = few_more (c.args.before + i) value c.in-Some.digit (omega (arith, c.loop-at-test.true, c.min-most.ensures, c.requires.few)) c.loop-at.invariant.small c.in-Some.ensures.bound in
    let same : value * 10 + digit_value (get_or text i 0) ≡ value * 10 + c.in-Some.digit = omega (arith, c.in-Some.ensures) in
    let within : i < length text = omega (arith, c.loop-at-test.true, c.min-most.ensures) in
    let next : c.args.before + i + 1 ≡ c.args.before + (i + 1) = omega arith in
    record {
      reads = subst (λ n. Reads c.args.start text (i + 1) n) same (Reads-more c.args.start text i value c.loop-at.invariant.reads within c.in-Some.ensures.value.0);
      small = subst (λ k. value * 10 + c.in-Some.digit < 10 ^ k) next few.0;
    }

pub returns-in-None-clause-value : goal.returns-in-None-clause-value
returns-in-None-clause-value c =
    let text = c.args.text.now in
    let i = c.loop-at.at in
    (take i text, split_at text i, c.loop-at.invariant.reads.digits, c.loop-at.invariant.reads.spelled)
