-- Exponents, and numbers times powers of ten.
use Rattle.std.proofs.Common.{◌≡◌, ℕ, suc, zero, ◌+◌, ◌*◌, ◌/◌, ◌%◌, ◌^◌, ◌<◌, ◌≤◌, Bool, true, false, nat_lt, min, List, Option, Some, None, ℤ, pos, negsuc, neg_ℤ, ◌+ℤ◌, refl, sym, ap, ◌∙◌, arith}
use Rattle.std.specs.Prelude.{option_map}
use Rattle.std.specs.Str.Parse.{digits_value, starts_with_minus, without_leading_sign}
use Rattle.std.proofs.lemmas.Int.{ints}
use Rattle.std.proofs.lemmas.Bool.Decides.{nat_tests}
use Rattle.std.proofs.lemmas.Nat.{pow-add, div-mul-add, mod-mul-add, div-add-mod'}
use Rattle.std.proofs.Math.Nat.{mod-lt, mul_assoc, mod-one, mul-lt-mul_of_pos_right}
use Rattle.std.specs.List.{before_first}
use Rattle.hdr_log.specs.Parts.{is_digits}
use Rattle.hdr_input.specs.declared.number.Number.{Number}
use Rattle.hdr_input.specs.declared.wide.Wide.{Wide}
use Rattle.hdr_input.specs.Decimals.{is_e, after_e, exponent_in, with_exponent, number_of, decimal_of, integer_of, limited, times_power, HasDigitsOf, StandsFor}
use Rattle.hdr_input.proofs.InUnits.{positive}

pub no_integer : (text rest : List ℕ) → rest ≡ without_leading_sign text → is_digits rest ≡ false → None ≡ option_map limited (integer_of text)
unfolding integer_of
no_integer text rest is none = rw (← is, none) refl

limited-neg : (n m : ℕ) → m ≡ min n 1_000_000_000 → neg_ℤ (pos m) ≡ limited (neg_ℤ (pos n))
limited-neg zero m is = ap (λ k. neg_ℤ (pos k)) (let e : m ≡ 0 = omega arith in e)
limited-neg (suc n) m is = ap (λ k. neg_ℤ (pos k)) (let e : m ≡ suc (min n 999_999_999) = omega arith in e)

pub negative : (text rest : List ℕ) (m : ℕ) (z : ℤ) → starts_with_minus text ≡ true → rest ≡ without_leading_sign text → is_digits rest ≡ true
    → m ≡ min (digits_value 10 rest) 1_000_000_000 → z ≡ neg_ℤ (pos m) → Some z ≡ option_map limited (integer_of text)
unfolding integer_of
negative text rest m z minus is all value same = rw (← is, all, minus) (ap Some (same ∙ limited-neg (digits_value 10 rest) m value))

pub nonnegative : (text rest : List ℕ) (m : ℕ) (z : ℤ) → starts_with_minus text ≡ false → rest ≡ without_leading_sign text → is_digits rest ≡ true
    → m ≡ min (digits_value 10 rest) 1_000_000_000 → z ≡ pos m → Some z ≡ option_map limited (integer_of text)
unfolding integer_of
nonnegative text rest m z minus is all value same = rw (← is, all, minus) (ap Some (same ∙ ap pos value))

-- zeros that are appended are dropped
pub scaled : (q r P n N : ℕ) → n ≡ q * P + r → r < P → 0 < N → ((n * N) / (P * N) ≡ q) × ((n * N) % (P * N) ≡ r * N)
scaled q r P n N is lt some =
    let same : n * N ≡ q * (P * N) + r * N = omega (arith, ap (λ m. m * N) is, sym (mul_assoc q P N)) in
    let small : r * N < P * N = mul-lt-mul_of_pos_right lt some in
    (ap (λ m. m / (P * N)) same ∙ div-mul-add q (P * N) (r * N) small, ap (λ m. m % (P * N)) same ∙ mod-mul-add q (P * N) (r * N) small)

pub cut_scaled : (n p k : ℕ) → ((n * 10 ^ k) / 10 ^ (p + k) ≡ n / 10 ^ p) × ((n * 10 ^ k) % 10 ^ (p + k) ≡ n % 10 ^ p * 10 ^ k)
cut_scaled n p k =
    let both = scaled (n / 10 ^ p) (n % 10 ^ p) (10 ^ p) n (10 ^ k) (sym (div-add-mod' n (10 ^ p))) (mod-lt n (positive p)) (positive k) in
    (ap (λ m. (n * 10 ^ k) / m) (pow-add 10 p k) ∙ both.0, ap (λ m. (n * 10 ^ k) % m) (pow-add 10 p k) ∙ both.1)

some_times : (r N : ℕ) → 0 < N → nat_lt 0 r ≡ nat_lt 0 (r * N)
some_times zero N some = ap (λ m. nat_lt 0 m) (let e : 0 ≡ zero * N = omega arith in e)
some_times (suc r) N some = let lt : 0 < suc r * N = omega (arith, mul-lt-mul_of_pos_right {k = N} (let l : 0 < suc r = omega arith in l) some) in grind (arith, nat_tests)

-- digits are dropped only by a number that is full
full_if_cut : (w : Wide) (x : Number) (f : Bool) → w.is_full ≡ f → HasDigitsOf w x → w.is_cut ≡ true → 2 ^ 124 ≤ w.digits
full_if_cut w x true is h cut = h.full is
full_if_cut w x false is h cut =
    let none : w.is_cut ≡ nat_lt 0 0 = h.is.is_cut ∙ ap (λ p. nat_lt 0 (x.digits % 10 ^ p)) (h.all is) ∙ ap (λ m. nat_lt 0 m) (mod-one x.digits) in
    cc

pub scaled_stands : (w : Wide) (x : Number) (e to : ℤ) → HasDigitsOf w x → to ≡ w.exponent +ℤ e
    → StandsFor (record { digits = w.digits; exponent = to; is_full = w.is_full; is_cut = w.is_cut }) (times_power x e)
scaled_stands w x (pos n) to h is =
    let both = cut_scaled x.digits h.cut n in record {
      cut = h.cut + n;
      is = record {
        exponent = omega (arith, ints, is, h.is.exponent);
        digits = h.is.digits ∙ sym both.0;
        is_cut = h.is.is_cut ∙ some_times (x.digits % 10 ^ h.cut) (10 ^ n) (positive n) ∙ sym (ap (λ m. nat_lt 0 m) both.1);
      };
      large = λ cut. full_if_cut w x w.is_full refl h cut;
    }
scaled_stands w x (negsuc n) to h is = record {
  cut = h.cut;
  is = record {
    exponent = omega (arith, ints, is, h.is.exponent);
    digits = h.is.digits;
    is_cut = h.is.is_cut;
  };
  large = λ cut. full_if_cut w x w.is_full refl h cut;
}

-- a text without a decimal, and one without an exponent after its e, are not numbers
pub no_number : (text decimal : List ℕ) → decimal ≡ before_first is_e text → decimal_of decimal ≡ None → number_of text ≡ None
unfolding number_of
no_number text decimal is none = rw (← is, none) refl

unlimited : (x : Number) (o : Option ℤ) → None ≡ option_map limited o → with_exponent (Some x) o ≡ None
unlimited x None h = refl
unlimited x (Some e) h = cc

pub no_power : (text decimal : List ℕ) (rest : Option (List ℕ)) (x : Number) → decimal ≡ before_first is_e text → rest ≡ after_e text → decimal_of decimal ≡ Some x
    → None ≡ option_map limited (exponent_in rest) → number_of text ≡ None
unfolding number_of
no_power text decimal rest x is after some none = rw (← is, ← after, some) (unlimited x (exponent_in rest) none)

with_limited : (x : Number) (o : Option ℤ) (e : ℤ) → Some e ≡ option_map limited o → with_exponent (Some x) o ≡ Some (times_power x e)
with_limited x None e h = cc
with_limited x (Some z) e h = let same : e ≡ limited z = cc in ap (λ p. Some (times_power x p)) (sym same)

pub a_number : (text decimal : List ℕ) (rest : Option (List ℕ)) (x : Number) (e : ℤ) → decimal ≡ before_first is_e text → rest ≡ after_e text → decimal_of decimal ≡ Some x
    → Some e ≡ option_map limited (exponent_in rest) → number_of text ≡ Some (times_power x e)
unfolding number_of
a_number text decimal rest x e is after some power = rw (← is, ← after, some) (with_limited x (exponent_in rest) e power)
