-- A number of thousandths that is printed is read again.
use Rattle.std.proofs.Common.{◌≡◌, ◌≢◌, ℕ, ◌+◌, ◌*◌, ◌/◌, ◌%◌, ◌^◌, ◌<◌, ◌==◌, true, false, not, get_or, List, [], ◌∷◌, ◌++◌, length, Some, refl, sym, ap, ◌∙◌, arith}
use Rattle.std.specs.Char.{is_ascii_digit, digit_value}
use Rattle.std.specs.List.{list_all}
use Rattle.std.specs.Fmt.{decimal}
use Rattle.std.specs.Str.Parse.{digits_value, without_leading_plus}
use Rattle.std.proofs.lemmas.Str.{digit_value_digit}
use Rattle.std.proofs.lemmas.Str.Parse.{without_leading_plus_none, not_in_digits}
use Rattle.std.proofs.lemmas.Fmt.{digits_decimal, digits_value-decimal, decimal_nonempty}
use Rattle.hdr_log.specs.Parts.{split_at_byte, is_digits, number_of}
use Rattle.hdr_log.specs.Grammar.{nanos_of, time_of}
use Rattle.hdr_log.specs.Texts.{three_digits, thousandths_text}
use Rattle.hdr_log.proofs.PartsDigits.{own, are_digits, number_of_digits}
use Rattle.hdr_log.proofs.PartsFronts.{parted_front}

-- a byte other than a digit is not among digits
pub not_among : (b : ℕ) (text : List ℕ) → is_ascii_digit b ≡ false → list_all is_ascii_digit text ≡ true → list_all (λ x. not (x == b)) text ≡ true
not_among b [] n h = refl
not_among b (x ∷ text) n h = grind (arith, not_among b text n)

one_digit : (d : ℕ) → d < 10 → digit_value (48 + d) ≡ d
one_digit d h = let e : digit_value (48 + d) + 48 ≡ 48 + d = digit_value_digit (48 + d) (omega arith, omega arith) in omega (arith, e)

three_value : (a b c : ℕ) → a < 10 → b < 10 → c < 10 → digits_value 10 ((48 + a) ∷ (48 + b) ∷ (48 + c) ∷ []) ≡ 100 * a + 10 * b + c
three_value a b c ha hb hc = rw (one_digit a ha, one_digit b hb, one_digit c hc) (omega arith)

is_one_digit : (d : ℕ) → d < 10 → is_ascii_digit (48 + d) ≡ true
is_one_digit d h = grind arith

pub three_digits_all : (m : ℕ) → m < 1000 → list_all is_ascii_digit (three_digits m) ≡ true
three_digits_all m h =
    let a : is_ascii_digit (48 + m / 100) ≡ true = is_one_digit (m / 100) (omega arith) in
    let b : is_ascii_digit (48 + m / 10 % 10) ≡ true = is_one_digit (m / 10 % 10) (omega arith) in
    let c : is_ascii_digit (48 + m % 10) ≡ true = is_one_digit (m % 10) (omega arith) in
    rw (a, b, c) refl

three_digits_value : (m : ℕ) → m < 1000 → digits_value 10 (three_digits m) ≡ m
three_digits_value m h = three_value (m / 100) (m / 10 % 10) (m % 10) (omega arith) (omega arith) (omega arith) ∙ omega arith

pub nanos_of_three : (m : ℕ) → m < 1000 → nanos_of (three_digits m) ≡ Some (m * 1_000_000)
unfolding nanos_of
nanos_of_three m h =
    let d : is_digits (three_digits m) ≡ true = are_digits (three_digits m) (omega arith) (three_digits_all m h) in
    rw d (ap (λ n. Some (n * 1_000_000)) (three_digits_value m h))

pub number_of_decimal : (n : ℕ) → n < 2 ^ 64 → number_of (decimal n) ≡ Some n
number_of_decimal n h =
    let v : digits_value 10 (decimal n) ≡ n = digits_value-decimal own n h in
    number_of_digits (decimal n) (are_digits (decimal n) (decimal_nonempty n h) (digits_decimal own n h)) (omega (arith, v)) ∙ ap Some v

first_of : (xs ys : List ℕ) → 0 < length xs → get_or (xs ++ ys) 0 0 ≡ get_or xs 0 0
first_of [] ys h = absurd (omega arith)
first_of (x ∷ xs) ys h = refl

pub no_plus : (n : ℕ) (rest : List ℕ) → n < 2 ^ 64 → without_leading_plus (decimal n ++ rest) ≡ decimal n ++ rest
no_plus n rest h =
    let some : 0 < length (decimal n) = decimal_nonempty n h in
    let plain : get_or (decimal n) 0 0 ≢ 43 = not_in_digits own (decimal n) 43 (digits_decimal own n h) (λ r. omega (arith, r.0)) 0 some in
    let first : get_or (decimal n ++ rest) 0 0 ≡ get_or (decimal n) 0 0 = first_of (decimal n) rest some in
    without_leading_plus_none (decimal n ++ rest) (λ e. plain (sym first ∙ e))

whole : (t : ℕ) → t / 1000 * 1_000_000_000 + t % 1000 * 1_000_000 ≡ t * 1_000_000
whole t = omega arith

pub time_of_thousandths : (t : ℕ) → t / 1000 < 2 ^ 64 → time_of (thousandths_text t) ≡ Some (t * 1_000_000)
unfolding time_of thousandths_text
time_of_thousandths t h =
    let p : split_at_byte 46 (decimal (t / 1000) ++ 46 ∷ three_digits (t % 1000)) ≡ Some (decimal (t / 1000), three_digits (t % 1000)) = parted_front 46 (decimal (t / 1000)) (three_digits (t % 1000)) (not_among 46 (decimal (t / 1000)) refl (digits_decimal own (t / 1000) h)) in
    let w : without_leading_plus (decimal (t / 1000) ++ 46 ∷ three_digits (t % 1000)) ≡ decimal (t / 1000) ++ 46 ∷ three_digits (t % 1000) = no_plus (t / 1000) (46 ∷ three_digits (t % 1000)) h in
    let n : number_of (decimal (t / 1000)) ≡ Some (t / 1000) = number_of_decimal (t / 1000) h in
    let m : nanos_of (three_digits (t % 1000)) ≡ Some (t % 1000 * 1_000_000) = nanos_of_three (t % 1000) (omega arith) in
    rw (w, p, n, m) (ap Some (whole t))
