use Rattle.std.proofs.Common.{List, ◌≡◌, ◌*◌, ◌<◌, ◌-◌, ◌^◌, ℕ, true, rules, refl, length, take, Some, sym}
use Rattle.std.specs.Str.Parse.{digits_value}
use Rattle.hdr_log.specs.Parts.{is_digits, number_of}
use Rattle.hdr_log.specs.Grammar.{nanos_of}
use Rattle.hdr_log.proofs.PartsDigits.{kept_number, kept_small, kept_not_none}
use Rattle.hdr_log.proofs.parts.nanos.Goals as goal

small : (text kept : List ℕ) (n p : ℕ) → true ≡ is_digits text → kept ≡ take 9 text → Some n ≡ number_of kept → p ≡ 10 ^ (9 - length kept) → (n * p < 1_000_000_000) × (Some (n * p) ≡ nanos_of text)
unfolding nanos_of
small text kept n p h e f g =
    let k : number_of (take 9 text) ≡ Some (digits_value 10 (take 9 text)) = kept_number text (sym h) in
    let s : digits_value 10 (take 9 text) * 10 ^ (9 - length (take 9 text)) < 1_000_000_000 = kept_small text (sym h) in
    let en : n ≡ digits_value 10 (take 9 text) = cc in
    let ep : p ≡ 10 ^ (9 - length (take 9 text)) = cc in
    rw (en, ep) (s, (let d : is_digits text ≡ true = sym h in rw d refl))

pub returns-in_err-number-clause-value : goal.returns-in_err-number-clause-value
returns-in_err-number-clause-value c = absurd (kept_not_none c.args.text.now c.kept-kept.result.now c.if-not-is_digits.ensures c.kept-kept.ensures c.in_err-number.ensures)

pub overflow_mul-result : goal.overflow_mul-result
overflow_mul-result c =
    let s : (c.in_ok-number.number * c.nanos_of_unit.result < 1_000_000_000) × (Some (c.in_ok-number.number * c.nanos_of_unit.result) ≡ nanos_of c.args.text.now) = small _ c.kept-kept.result.now _ _ c.if-not-is_digits.ensures c.kept-kept.ensures c.in_ok-number.ensures c.nanos_of_unit.ensures in
    search rules

pub overflow_cast-result : goal.overflow_cast-result
overflow_cast-result c =
    let s : (c.in_ok-number.number * c.nanos_of_unit.result < 1_000_000_000) × (Some (c.in_ok-number.number * c.nanos_of_unit.result) ≡ nanos_of c.args.text.now) = small _ c.kept-kept.result.now _ _ c.if-not-is_digits.ensures c.kept-kept.ensures c.in_ok-number.ensures c.nanos_of_unit.ensures in
    search rules

pub returns : goal.returns
returns c =
    let s : (c.in_ok-number.number * c.nanos_of_unit.result < 1_000_000_000) × (Some (c.in_ok-number.number * c.nanos_of_unit.result) ≡ nanos_of c.args.text.now) = small _ c.kept-kept.result.now _ _ c.if-not-is_digits.ensures c.kept-kept.ensures c.in_ok-number.ensures c.nanos_of_unit.ensures in
    record { value = s.1; small = s.0 }
