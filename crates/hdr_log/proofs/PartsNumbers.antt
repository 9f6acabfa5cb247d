-- The number of a list of digits, digit by digit.
use Rattle.std.proofs.Common.{◌≡◌, ℕ, ◌+◌, ◌*◌, ◌^◌, ◌<◌, ◌≤◌, ◌&&◌, ◌==◌, true, false, nat_lt, List, length, take, get_or, Some, None, refl, sym, ap, ◌∙◌, arith}
use Rattle.std.specs.Char.{is_ascii_digit, digit_value}
use Rattle.std.specs.List.{list_all}
use Rattle.std.specs.Str.Parse.{digits_value}
use Rattle.std.proofs.lemmas.List.{take_all}
use Rattle.std.proofs.lemmas.List.Folds.{list_all_more}
use Rattle.std.proofs.lemmas.Int.Digits.{digits_value_more}
use Rattle.std.proofs.lemmas.Str.Parse.{digits_value-take-le}
use Rattle.hdr_log.specs.Parts.{number_of}

lt_test : (a b : ℕ) → a < b → nat_lt a b ≡ true
lt_test a b h = grind arith

-- digits that start with a number above 64 bits have no number
pub number_of-too_great : (text : List ℕ) (i value : ℕ) → i < length text → value ≡ digits_value 10 (take i text) → 2 ^ 64 ≤ value * 10 + digit_value (get_or text i 0) → None ≡ number_of text
unfolding number_of
number_of-too_great text i value l e h =
    let more : digits_value 10 (take (i + 1) text) ≡ digits_value 10 (take i text) * 10 + digit_value (get_or text i 0) = digits_value_more 10 text i l in
    let most : digits_value 10 (take (i + 1) text) ≤ digits_value 10 text = digits_value-take-le 10 text (i + 1) (omega arith) in
    let great : 2 ^ 64 ≤ digits_value 10 text = omega arith in
    grind (arith, great)

-- digits, so far, and their number
pub record Reads (text : List ℕ) (i value : ℕ) : Type 0 where
  pub digits : list_all is_ascii_digit (take i text) ≡ true
  pub spelled : value ≡ digits_value 10 (take i text)
  pub fits : value < 2 ^ 64

-- one more digit
pub Reads-more : (text : List ℕ) (i value : ℕ) → Reads text i value → i < length text → is_ascii_digit (get_or text i 0) ≡ true → value * 10 + digit_value (get_or text i 0) < 2 ^ 64 → Reads text (i + 1) (value * 10 + digit_value (get_or text i 0))
Reads-more text i value r l d h = record {
  digits = list_all_more is_ascii_digit text i 0 l ∙ ap (λ b. b && is_ascii_digit (get_or text i 0)) r.digits ∙ d;
  spelled = ap (λ n. n * 10 + digit_value (get_or text i 0)) r.spelled ∙ sym (digits_value_more 10 text i l);
  fits = h;
}

-- all are digits
pub number_of-Reads : (text : List ℕ) (i value : ℕ) → (length text == 0) ≡ false → length text ≤ i → Reads text i value → Some value ≡ number_of text
unfolding number_of
number_of-Reads text i value n l r =
    let whole : take i text ≡ text = take_all i text l in
    let digits : list_all is_ascii_digit text ≡ true = ap (list_all is_ascii_digit) (sym whole) ∙ r.digits in
    let spelled : value ≡ digits_value 10 text = r.spelled ∙ ap (digits_value 10) whole in
    let small : value < 2 ^ 64 = r.fits in
    let fits : nat_lt value (2 ^ 64) ≡ true = lt_test value (2 ^ 64) small in
    rw (n, digits, ← spelled, fits) refl
