-- Digits and their number.
use Rattle.std.proofs.Common.{◌≡◌, ℕ, zero, suc, ◌+◌, ◌-◌, ◌*◌, ◌^◌, ◌<◌, ◌≤◌, Bool, true, nat_lt, List, [], ◌∷◌, length, take, Some, None, refl, sym, ap, arith, rules, length-take, lit<}
use Rattle.std.specs.Char.{is_ascii_digit}
use Rattle.std.specs.List.{list_all}
use Rattle.std.specs.Str.{IsUtf8}
use Rattle.std.specs.Str.Parse.{digits_value}
use Rattle.std.proofs.lemmas.Str.{IsUtf8-from_ascii}
use Rattle.std.proofs.lemmas.Fmt.{IsAscii-from_digits}
use Rattle.std.proofs.lemmas.Str.Parse.{IsNumeralModel, IsDigitsTest, numerals_by_value, digits_value_short}
use Rattle.std.proofs.lemmas.Nat.{pow-add}
use Rattle.std.proofs.Math.Nat.{mul-lt-mul_of_pos_right, pow-suc}
use Rattle.hdr_log.specs.Parts.{is_digits, number_of}

pub tells : IsDigitsTest (λ ds. list_all is_ascii_digit ds ≡ true)
tells = search rules

pub own : IsNumeralModel (λ ds. list_all is_ascii_digit ds ≡ true) (digits_value 10)
own = numerals_by_value _ tells

pub digits_all : (text : List ℕ) → is_digits text ≡ true → list_all is_ascii_digit text ≡ true
digits_all text h = grind arith

pub digits_nonempty : (text : List ℕ) → is_digits text ≡ true → 0 < length text
digits_nonempty text h = grind arith

pub digits_text : (text : List ℕ) → is_digits text ≡ true → IsUtf8 text
digits_text text h = IsUtf8-from_ascii text (IsAscii-from_digits text (own.to text (digits_all text h)))

pub pow_above : (j : ℕ) → 0 < 10 ^ j
pow_above zero = lit< tt
pow_above (suc j) = let h : 0 < 10 ^ j = pow_above j in omega (arith, pow-suc 10 j, h)

pub list_all_take : {A : Type 0} (p : A → Bool) (n : ℕ) (xs : List A) → list_all p xs ≡ true → list_all p (take n xs) ≡ true
list_all_take p zero xs h = refl
list_all_take p (suc n) [] h = refl
list_all_take p (suc n) (x ∷ xs) h = grind (arith, list_all_take p n xs)

pub kept_below : (text : List ℕ) → is_digits text ≡ true → digits_value 10 (take 9 text) < 10 ^ length (take 9 text)
kept_below text h = digits_value_short own (take 9 text) (length (take 9 text)) (list_all_take is_ascii_digit 9 text (digits_all text h)) (omega arith)

pub kept_short : (text : List ℕ) → length (take 9 text) ≤ 9
kept_short text = omega (arith, length-take 9 text)

pub scaled : (a k j : ℕ) → a < 10 ^ k → k + j ≡ 9 → a * 10 ^ j < 1_000_000_000
scaled a k j h e = let m : a * 10 ^ j < 10 ^ k * 10 ^ j = mul-lt-mul_of_pos_right h (pow_above j) in
    let e2 : 10 ^ (k + j) ≡ 10 ^ k * 10 ^ j = pow-add 10 k j in
    let e3 : 10 ^ (k + j) ≡ 1_000_000_000 = ap (λ n. 10 ^ n) e in
    omega (arith, m, e2, e3)

pub kept_small : (text : List ℕ) → is_digits text ≡ true → digits_value 10 (take 9 text) * 10 ^ (9 - length (take 9 text)) < 1_000_000_000
kept_small text h = scaled _ (length (take 9 text)) (9 - length (take 9 text)) (kept_below text h) (let s : length (take 9 text) ≤ 9 = kept_short text in omega arith)

pub lt_test : (a b : ℕ) → a < b → nat_lt a b ≡ true
lt_test a b h = grind arith

pub are_digits : (text : List ℕ) → 0 < length text → list_all is_ascii_digit text ≡ true → is_digits text ≡ true
are_digits [] n h = absurd (omega arith)
are_digits (x ∷ xs) n h = grind (arith, h)

pub number_of_digits : (text : List ℕ) → is_digits text ≡ true → digits_value 10 text < 2 ^ 64 → number_of text ≡ Some (digits_value 10 text)
unfolding number_of
number_of_digits text d b = let t : nat_lt (digits_value 10 text) (2 ^ 64) ≡ true = lt_test _ _ b in
    rw (d, t) refl

pub kept_number : (text : List ℕ) → is_digits text ≡ true → number_of (take 9 text) ≡ Some (digits_value 10 (take 9 text))
kept_number text h =
    let digits : list_all is_ascii_digit (take 9 text) ≡ true = list_all_take is_ascii_digit 9 text (digits_all text h) in
    let some : 0 < length (take 9 text) = omega (arith, length-take 9 text, digits_nonempty text h) in
    number_of_digits (take 9 text) (are_digits _ some digits) (let s : digits_value 10 (take 9 text) < 10 ^ 9 = digits_value_short own (take 9 text) 9 digits (kept_short text) in omega arith)

pub kept_not_none : (text kept : List ℕ) → true ≡ is_digits text → kept ≡ take 9 text → None ≡ number_of kept → ⊥
kept_not_none text kept h e f = let k : number_of (take 9 text) ≡ Some (digits_value 10 (take 9 text)) = kept_number text (sym h) in cc
