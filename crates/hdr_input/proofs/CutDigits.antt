-- Numbers without their last digits.
use Rattle.std.proofs.Common.{◌≡◌, ℕ, suc, ◌+◌, ◌*◌, ◌/◌, ◌%◌, ◌^◌, ◌<◌, ◌≤◌, Bool, true, false, ◌||◌, ◌&&◌, not, nat_lt, cond, List, [], ◌∷◌, ◌++◌, Option, Some, None, OnSome, IfSome, IfNone, ◌-◌, ◌==◌, length, take, get_or, add-one, length-append, ℤ, pos, ◌+ℤ◌, ◌-ℤ◌, refl, sym, ap, ◌∙◌, subst, arith, lit<}
use Rattle.std.specs.Prelude.{if◌then◌else◌}
use Rattle.std.proofs.lemmas.Int.{ints}
use Rattle.std.proofs.lemmas.Bool.Decides.{nat_tests}
use Rattle.std.proofs.lemmas.Nat.{div-mul-add, mod-mul-add, div-add-mod'}
use Rattle.std.proofs.Math.Nat.{pow-suc, mod-lt, mul_assoc, div-one, mod-one}
use Rattle.hdr_input.specs.declared.number.Number.{Number}
use Rattle.hdr_input.specs.declared.wide.Wide.{Wide}
use Rattle.hdr_input.specs.Decimals.{is_point, of_digits, decimal_of, IsCutBy, HasDigitsOf, with_digit, with_digits}
use Rattle.std.specs.Char.{digit_value, is_ascii_digit}
use Rattle.std.specs.List.{before_first, after_first, list_all}
use Rattle.std.specs.Str.Parse.{digits_value, digits_value_after}
use Rattle.std.proofs.lemmas.List.Folds.{list_all-append}
use Rattle.hdr_log.specs.Parts.{is_digits}
use Rattle.std.proofs.lemmas.List.{length-take-le}
use Rattle.hdr_input.proofs.Digits.{after_more}
use Rattle.hdr_input.proofs.InUnits.{positive}

abbrev pub number : ℕ → ℕ → Number
number digits decimals = record { digits = digits; decimals = decimals }

-- one digit more is dropped
more : (q r P n d : ℕ) → n ≡ q * P + r → r < P → d < 10 → ((n * 10 + d) / (P * 10) ≡ q) × ((n * 10 + d) % (P * 10) ≡ r * 10 + d)
more q r P n d is lt digit =
    let same : n * 10 + d ≡ q * (P * 10) + (r * 10 + d) = omega (arith, is, sym (mul_assoc q P 10)) in
    let small : r * 10 + d < P * 10 = omega arith in
    (ap (λ m. m / (P * 10)) same ∙ div-mul-add q (P * 10) (r * 10 + d) small, ap (λ m. m % (P * 10)) same ∙ mod-mul-add q (P * 10) (r * 10 + d) small)

next_power : (p : ℕ) → 10 ^ (p + 1) ≡ 10 ^ p * 10
next_power p = ap (λ n. 10 ^ n) (let e : p + 1 ≡ suc p = omega arith in e) ∙ pow-suc 10 p

pub cut_more : (n p d : ℕ) → d < 10 → ((n * 10 + d) / 10 ^ (p + 1) ≡ n / 10 ^ p) × ((n * 10 + d) % 10 ^ (p + 1) ≡ n % 10 ^ p * 10 + d)
cut_more n p d digit =
    let both = more (n / 10 ^ p) (n % 10 ^ p) (10 ^ p) n d (sym (div-add-mod' n (10 ^ p))) (mod-lt n (positive p)) digit in
    (ap (λ m. (n * 10 + d) / m) (next_power p) ∙ both.0, ap (λ m. (n * 10 + d) % m) (next_power p) ∙ both.1)

-- whether a digit that was cut is not 0
some_digit : (r d : ℕ) → (nat_lt 0 r || nat_lt 0 d) ≡ nat_lt 0 (r * 10 + d)
some_digit r d = grind (arith, nat_tests)

-- one more digit is dropped by a number that is full
pub with_cut : (w : Wide) (x : Number) (d : ℕ) (f : Bool) (e : ℤ) (b : Bool) → d < 10 → 2 ^ 124 ≤ w.digits → HasDigitsOf w x
    → e ≡ w.exponent +ℤ pos (if not f then 1 else 0) → b ≡ (w.is_cut || nat_lt 0 d)
    → HasDigitsOf (record { digits = w.digits; exponent = e; is_full = true; is_cut = b }) (with_digit x d f)
with_cut w x d f e b digit large h is cut =
    let both = cut_more x.digits h.cut d digit in record {
      cut = h.cut + 1;
      is = record {
        exponent = exponents f w.exponent e x.decimals h.cut is h.is.exponent;
        digits = h.is.digits ∙ sym both.0;
        is_cut = cut ∙ ap (λ t. t || nat_lt 0 d) h.is.is_cut ∙ some_digit (x.digits % 10 ^ h.cut) d ∙ sym (ap (λ m. nat_lt 0 m) both.1);
      };
      all = λ no. cc;
      full = λ _. large;
    }
  where
    exponents : (f : Bool) (old e : ℤ) (decimals cut : ℕ) → e ≡ old +ℤ pos (if not f then 1 else 0) → old +ℤ pos decimals ≡ pos cut
        → e +ℤ pos (decimals + (if f then 1 else 0)) ≡ pos (cut + 1)
    exponents true old e decimals cut is h = omega (arith, ints)
    exponents false old e decimals cut is h = omega (arith, ints)

-- one more digit is added to a number that is not full
pub with_one : (w : Wide) (x : Number) (d : ℕ) (f : Bool) (e : ℤ) (n : ℕ) → w.is_full ≡ false → HasDigitsOf w x
    → w.exponent ≡ e +ℤ pos (if f then 1 else 0) → n ≡ w.digits * 10 + d
    → HasDigitsOf (record { digits = n; exponent = e; is_full = w.is_full; is_cut = w.is_cut }) (with_digit x d f)
with_one w x d f e n not_full h is next =
    let none : h.cut ≡ 0 = h.all not_full in
    let whole : w.digits ≡ x.digits = h.is.digits ∙ ap (λ p. x.digits / 10 ^ p) none ∙ div-one x.digits in
    let rest : w.is_cut ≡ nat_lt 0 0 = h.is.is_cut ∙ ap (λ p. nat_lt 0 (x.digits % 10 ^ p)) none ∙ ap (λ m. nat_lt 0 m) (mod-one x.digits) in
    let zero : w.exponent +ℤ pos x.decimals ≡ pos 0 = h.is.exponent ∙ ap (λ p. pos p) none in record {
      cut = 0;
      is = record {
        exponent = exponents f w.exponent e x.decimals is zero;
        digits = next ∙ ap (λ m. m * 10 + d) whole ∙ sym (div-one (x.digits * 10 + d));
        is_cut = rest ∙ sym (ap (λ m. nat_lt 0 m) (mod-one (x.digits * 10 + d)));
      };
      all = λ _. refl;
      full = λ yes. cc;
    }
  where
    exponents : (f : Bool) (old e : ℤ) (decimals : ℕ) → old ≡ e +ℤ pos (if f then 1 else 0) → old +ℤ pos decimals ≡ pos 0
        → e +ℤ pos (decimals + (if f then 1 else 0)) ≡ pos 0
    exponents true old e decimals is h = omega (arith, ints)
    exponents false old e decimals is h = omega (arith, ints)

-- the digits before an index of a text, and one more
pub one_more : (w : Wide) (x : Number) (text : List ℕ) (i d : ℕ) (f : Bool) → i < length text → d ≡ digit_value (get_or text i 0)
    → HasDigitsOf w (with_digit (with_digits x (take i text) f) d f) → HasDigitsOf w (with_digits x (take (i + 1) text) f)
one_more w x text i d f lt is h =
    let digits : digits_value_after 10 x.digits (take i text) * 10 + d ≡ digits_value_after 10 x.digits (take (i + 1) text) = ap (λ n. digits_value_after 10 x.digits (take i text) * 10 + n) is ∙ sym (after_more x.digits text i lt) in
    let decimals : x.decimals + (if f then length (take i text) else 0) + (if f then 1 else 0) ≡ x.decimals + (if f then length (take (i + 1) text) else 0) = longer f x.decimals text i lt in
    subst (λ n. HasDigitsOf w n) (both _ _ _ _ digits decimals) h
  where
    longer : (f : Bool) (k : ℕ) (text : List ℕ) (i : ℕ) → i < length text → k + (if f then length (take i text) else 0) + (if f then 1 else 0) ≡ k + (if f then length (take (i + 1) text) else 0)
    longer true k text i lt = let a : length (take i text) ≡ i = length-take-le i text (omega arith) in let b : length (take (i + 1) text) ≡ i + 1 = length-take-le (i + 1) text (omega arith) in omega (arith, a, b)
    longer false k text i lt = omega arith

    both : (a b c d : ℕ) → a ≡ b → c ≡ d → number a c ≡ number b d
    both a b c d e g = ap (λ n. number n c) e ∙ ap (λ n. number b n) g

pub digit_is : (c : ℕ) → is_ascii_digit c ≡ true → c - 48 ≡ digit_value c
digit_is c h = grind (arith, nat_tests)

-- no digits yet
pub no_digits : HasDigitsOf (record { digits = 0; exponent = pos 0; is_full = false; is_cut = false }) (number 0 0)
no_digits = record {
  cut = 0;
  is = record { exponent = refl; digits = refl; is_cut = refl };
  all = λ _. refl;
  full = λ yes. cc;
}

value-append : (n : ℕ) (xs ys : List ℕ) → digits_value_after 10 (digits_value_after 10 n xs) ys ≡ digits_value_after 10 n (xs ++ ys)
value-append n [] ys = refl
value-append n (x ∷ xs) ys = value-append (n * 10 + digit_value x) xs ys

-- the digits before the point, and those after it
pub both_sides : (w : Wide) (whole fraction : List ℕ) → HasDigitsOf w (with_digits (with_digits (number 0 0) whole false) fraction true) → HasDigitsOf w (of_digits whole fraction)
both_sides w whole fraction h =
    let digits : digits_value_after 10 (digits_value_after 10 0 whole) fraction ≡ digits_value 10 (whole ++ fraction) = value-append 0 whole fraction in
    let decimals : 0 + 0 + length fraction ≡ length fraction = omega arith in
    let same : number (digits_value_after 10 (digits_value_after 10 0 whole) fraction) (0 + 0 + length fraction) ≡ number (digits_value 10 (whole ++ fraction)) (length fraction)
    = ap (λ n. number n (0 + 0 + length fraction)) digits ∙ ap (λ n. number (digits_value 10 (whole ++ fraction)) n) decimals in
    subst (HasDigitsOf w) same h

and_false : (b : Bool) → (b && false) ≡ false
and_false true = refl
and_false false = refl

-- a text whose sides are not digits is not a decimal
pub no_decimal : (text whole fraction : List ℕ) → whole ≡ before_first is_point text → fraction ≡ after_first is_point text → is_digits (whole ++ fraction) ≡ false → decimal_of text ≡ None
unfolding decimal_of
no_decimal text whole fraction before after none = rw (← before, ← after, none) refl

pub some_decimal : (text whole fraction : List ℕ) → whole ≡ before_first is_point text → fraction ≡ after_first is_point text → is_digits (whole ++ fraction) ≡ true → decimal_of text ≡ Some (of_digits whole fraction)
unfolding decimal_of
some_decimal text whole fraction before after all = rw (← before, ← after, all) refl

pub empty_sides : (whole fraction : List ℕ) → (length (whole ++ fraction) == 0) ≡ true → is_digits (whole ++ fraction) ≡ false
empty_sides whole fraction e = rw e refl

pub digits_sides : (whole fraction : List ℕ) → (length (whole ++ fraction) == 0) ≡ false → is_digits (whole ++ fraction) ≡ (list_all is_ascii_digit whole && list_all is_ascii_digit fraction)
digits_sides whole fraction e = rw e (list_all-append is_ascii_digit whole fraction)

-- the digits after the point are the last
pub fraction_none : (o : Option Wide) (text whole fraction : List ℕ) → whole ≡ before_first is_point text → fraction ≡ after_first is_point text
    → (length (whole ++ fraction) == 0) ≡ false → IfNone o (list_all is_ascii_digit fraction ≡ false) → IfNone o (decimal_of text ≡ None)
fraction_none (Some w) text whole fraction before after some h = tt
fraction_none None text whole fraction before after some h = no_decimal text whole fraction before after (digits_sides whole fraction some ∙ rw h (and_false (list_all is_ascii_digit whole)))

pub fraction_some : (o : Option Wide) (text whole fraction : List ℕ) → whole ≡ before_first is_point text → fraction ≡ after_first is_point text
    → (length (whole ++ fraction) == 0) ≡ false → list_all is_ascii_digit whole ≡ true → OnSome o (list_all is_ascii_digit fraction ≡ true)
    → IfSome o (λ w. length text < 2 ^ 62 → HasDigitsOf w (with_digits (with_digits (number 0 0) whole false) fraction true))
    → IfSome o (λ w. (x : Number) × (decimal_of text ≡ Some x) × (length text < 2 ^ 62 → HasDigitsOf w x))
fraction_some None text whole fraction before after some digits all h = tt
fraction_some (Some w) text whole fraction before after some digits all h = (
  of_digits whole fraction,
  some_decimal text whole fraction before after (digits_sides whole fraction some ∙ rw (digits, all) refl),
  λ short. both_sides w whole fraction (h short),
)

-- what is before the point has another byte than digits
pub no_whole : (text whole fraction : List ℕ) → whole ≡ before_first is_point text → fraction ≡ after_first is_point text
    → (length (whole ++ fraction) == 0) ≡ false → list_all is_ascii_digit whole ≡ false → decimal_of text ≡ None
no_whole text whole fraction before after some h = no_decimal text whole fraction before after (digits_sides whole fraction some ∙ rw h refl)
