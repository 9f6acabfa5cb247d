-- Wide numbers in units.
use Rattle.std.proofs.Common.{◌≡◌, ℕ, suc, zero, ◌+◌, ◌*◌, ◌/◌, ◌%◌, ◌^◌, ◌<◌, ◌≤◌, Bool, true, false, nat_lt, ◌-◌, ◌||◌, subst, Result, Ok, Err, IfOk, IfErr, Option, Some, None, IfSome, IfNone, SomeIff, ℤ, pos, negsuc, ◌+ℤ◌, unsigned_abs, refl, sym, ap, ◌∙◌, arith, inl, inr}
use Rattle.std.specs.Int.RustNames.{int_lt, int_le}
use Rattle.std.proofs.lemmas.Int.{ints}
use Rattle.std.proofs.lemmas.Bool.{cases_lt}
use Rattle.std.proofs.lemmas.Bool.Decides.{nat_tests}
use Rattle.hdr_input.specs.Numbers.{in_units}
use Rattle.hdr_input.specs.declared.number.Number.{Number}
use Rattle.hdr_input.specs.declared.wide.Wide.{Wide}
use Rattle.hdr_input.specs.Decimals.{StandsFor, IsNarrowed, IsNarrowError, decimals_of}
use Rattle.hdr_input.specs.Rounding.{is_rounded}
use Rattle.hdr_input.specs.declared.cause.Cause.{Cause}
use Rattle.hdr_input.specs.declared.cause.Cause.TheVariants.{TooLarge}
use Rattle.std.proofs.Math.Nat.{le-mul_of_pos_right}
use Rattle.hdr_input.proofs.Rounded.{rounded_below, in_parts, least_above, exact_above, at_least, rest_twice}
use Rattle.hdr_input.proofs.InUnits.{positive}

-- the digits that were cut are 0, if the number is exact or 0
no_rest : (r n : ℕ) (cut : Bool) → cut ≡ nat_lt 0 r → (cut ≡ true → 2 ^ 124 ≤ n) → (0 < n → cut ≡ false) → r ≡ 0
no_rest r n true is large exact =
    let great = large refl in
    let no : true ≡ false = exact (omega (arith, great)) in
    absurd (let f : ⊥ = cc in f)
no_rest r n false is large exact = grind (arith, nat_tests)

-- a number is divided, if its digits are past the decimals that are wanted
pub divided_is : (w : Wide) (x : Number) (d : ℕ) (power : ℤ) → StandsFor w x → power ≡ w.exponent +ℤ pos d → int_lt power (pos 0) ≡ true
    → (w.digits + 10 ^ unsigned_abs power / 2) / 10 ^ unsigned_abs power ≡ in_units x.digits x.decimals d
divided_is w x d (pos n) h is below = absurd (let f : ⊥ = grind (arith, nat_tests) in f)
divided_is w x d (negsuc i) h is below =
    let places : x.decimals ≡ h.cut + d + suc i = omega (arith, ints, is, h.is.exponent) in
    ap (λ q. (q + 10 ^ suc i / 2) / 10 ^ suc i) h.is.digits ∙ sym (rounded_below x.digits h.cut x.decimals d i places)

pub places_above : (w : Wide) (x : Number) (d : ℕ) (power : ℤ) (h : StandsFor w x) → power ≡ w.exponent +ℤ pos d → int_lt power (pos 0) ≡ false → h.cut + d ≡ x.decimals + unsigned_abs power
places_above w x d (pos n) h is above = omega (arith, ints, is, h.is.exponent)
places_above w x d (negsuc n) h is above = absurd (let f : ⊥ = cc in f)

-- and otherwise multiplied
pub multiplied_is : (w : Wide) (x : Number) (d : ℕ) (power : ℤ) → StandsFor w x → power ≡ w.exponent +ℤ pos d → int_lt power (pos 0) ≡ false
    → (0 < w.digits → w.is_cut ≡ false) → w.digits * 10 ^ unsigned_abs power ≡ in_units x.digits x.decimals d
multiplied_is w x d power h is above exact =
    let none : x.digits % 10 ^ h.cut ≡ 0 = no_rest (x.digits % 10 ^ h.cut) w.digits w.is_cut h.is.is_cut h.large exact in
    ap (λ q. q * 10 ^ unsigned_abs power) h.is.digits ∙ sym (exact_above x.digits h.cut x.decimals d (unsigned_abs power) (places_above w x d power h is above) none)

pub multiplied_least : (w : Wide) (x : Number) (d : ℕ) (power : ℤ) → StandsFor w x → power ≡ w.exponent +ℤ pos d → int_lt power (pos 0) ≡ false
    → w.digits * 10 ^ unsigned_abs power ≤ in_units x.digits x.decimals d
multiplied_least w x d power h is above =
    let least = least_above x.digits h.cut x.decimals d (unsigned_abs power) (places_above w x d power h is above) in
    let same : w.digits * 10 ^ unsigned_abs power ≡ x.digits / 10 ^ h.cut * 10 ^ unsigned_abs power = ap (λ q. q * 10 ^ unsigned_abs power) h.is.digits in
    omega (arith, least, same)

-- units as far as 64 bits hold them
pub narrow_some : (o : Option ℕ) (n : ℕ) (w : Wide) (d : ℕ) → SomeIff o (n < 2 ^ 64) n → ((x : Number) → StandsFor w x → n ≡ in_units x.digits x.decimals d)
    → IfSome o (λ units. (x : Number) → StandsFor w x → units ≡ in_units x.digits x.decimals d)
narrow_some None n w d fits is = tt
narrow_some (Some units) n w d fits is = λ x h. fits.1 ∙ is x h

pub narrow_none : (o : Option ℕ) (n : ℕ) (w : Wide) (d : ℕ) → SomeIff o (n < 2 ^ 64) n → ((x : Number) → StandsFor w x → n ≡ in_units x.digits x.decimals d)
    → IfNone o ((x : Number) → StandsFor w x → 2 ^ 64 ≤ in_units x.digits x.decimals d)
narrow_none (Some units) n w d fits is = tt
narrow_none None n w d over is = λ x h. (
    let same = is x h in
    elim (cases_lt n (2 ^ 64)) [ inl lt ↦ absurd (over lt) | inr ge ↦ omega (arith, ge, same) ]
    )

-- a number that 64 bits hold in units is not cut
uncut : (w : Wide) (x : Number) (d m : ℕ) (h : StandsFor w x) → h.cut + d ≡ x.decimals + m → in_units x.digits x.decimals d < 2 ^ 64 → w.is_cut ≡ false
uncut w x d m h is small = by_cases w.is_cut h.large
  where
    by_cases : (cut : Bool) → (cut ≡ true → 2 ^ 124 ≤ w.digits) → cut ≡ false
    by_cases false large = refl
    by_cases true large =
        let great = large refl in
        let least = least_above x.digits h.cut x.decimals d m is in
        let more : x.digits / 10 ^ h.cut ≤ x.digits / 10 ^ h.cut * 10 ^ m = at_least (x.digits / 10 ^ h.cut) m in
        let own = h.is.digits in
        absurd (let f : ⊥ = omega (arith, great, least, more, own, small) in f)

-- so that nothing is left
pub none_cut : (r : ℕ) (cut : Bool) → cut ≡ nat_lt 0 r → cut ≡ false → r ≡ 0
none_cut r cut is none = grind (arith, nat_tests)

none_rest : (n p few more : ℕ) → p ≡ few + more → n % 10 ^ p ≡ 0 → n % 10 ^ few ≡ 0
none_rest n p few more is none =
    let both : n % 10 ^ p ≡ n / 10 ^ few % 10 ^ more * 10 ^ few + n % 10 ^ few = ap (λ e. n % 10 ^ e) is ∙ rest_twice n few more in
    omega (arith, both, none)

pub rounded_above : (w : Wide) (x : Number) (d : ℕ) (power : ℤ) → StandsFor w x → power ≡ w.exponent +ℤ pos d → int_lt power (pos 0) ≡ false
    → in_units x.digits x.decimals d < 2 ^ 64 → w.is_cut ≡ is_rounded x d
rounded_above w x d power h is above small =
    let places = places_above w x d power h is above in
    let no : w.is_cut ≡ false = uncut w x d (unsigned_abs power) h places small in
    let none : x.digits % 10 ^ h.cut ≡ 0 = none_cut (x.digits % 10 ^ h.cut) w.is_cut h.is.is_cut no in
    let few : h.cut ≡ (x.decimals - d) + (h.cut - (x.decimals - d)) = omega (arith, places) in
    no ∙ sym (ap (λ r. nat_lt 0 r) (none_rest x.digits h.cut (x.decimals - d) (h.cut - (x.decimals - d)) few none))

pub some_rest : (q r P : ℕ) → 0 < P → nat_lt 0 (q * P + r) ≡ (nat_lt 0 r || nat_lt 0 q)
some_rest zero r P some = let e : zero * P + r ≡ r = omega arith in rw e (by_rest (nat_lt 0 r))
  where
    by_rest : (b : Bool) → b ≡ (b || false)
    by_rest true = refl
    by_rest false = refl
some_rest (suc q) r P some =
    let lt : 0 < suc q * P + r = omega (arith, le-mul_of_pos_right {m = P} (suc q) some) in
    let all : nat_lt 0 (suc q * P + r) ≡ true = grind (arith, nat_tests) in
    let one : nat_lt 0 (suc q) ≡ true = grind (arith, nat_tests) in
    all ∙ by_rest (nat_lt 0 r) ∙ sym (ap (λ b. nat_lt 0 r || b) one)
  where
    by_rest : (b : Bool) → true ≡ (b || true)
    by_rest true = refl
    by_rest false = refl

pub rounded_divided : (w : Wide) (x : Number) (d : ℕ) (power : ℤ) → StandsFor w x → power ≡ w.exponent +ℤ pos d → int_lt power (pos 0) ≡ true
    → is_rounded x d ≡ (w.is_cut || nat_lt 0 (w.digits % 10 ^ unsigned_abs power))
rounded_divided w x d (pos n) h is below = absurd (let f : ⊥ = grind (arith, nat_tests) in f)
rounded_divided w x d (negsuc i) h is below =
    let places : x.decimals - d ≡ h.cut + suc i = omega (arith, ints, is, h.is.exponent) in
    let rest : x.digits % 10 ^ (x.decimals - d) ≡ x.digits / 10 ^ h.cut % 10 ^ suc i * 10 ^ h.cut + x.digits % 10 ^ h.cut = ap (λ e. x.digits % 10 ^ e) places ∙ rest_twice x.digits h.cut (suc i) in
    ap (λ r. nat_lt 0 r) rest ∙ some_rest (x.digits / 10 ^ h.cut % 10 ^ suc i) (x.digits % 10 ^ h.cut) (10 ^ h.cut) (positive h.cut)
    ∙ ap (λ b. b || nat_lt 0 (x.digits / 10 ^ h.cut % 10 ^ suc i)) (sym h.is.is_cut) ∙ ap (λ q. w.is_cut || nat_lt 0 (q % 10 ^ suc i)) (sym h.is.digits)

-- a number with all of its decimals is exact
above_decimals : (w : Wide) (x : Number) (d : ℕ) (e : ℤ) (h : StandsFor w x) → w.exponent ≡ e → decimals_of e ≤ d → (m : ℕ) × (h.cut + d ≡ x.decimals + m)
above_decimals w x d (pos n) h is le = (n + d, omega (arith, ints, is, h.is.exponent))
above_decimals w x d (negsuc n) h is le = (d - suc n, omega (arith, ints, is, le, h.is.exponent))

exact_value : (w : Wide) (x : Number) (d n : ℕ) → StandsFor w x → decimals_of w.exponent ≤ d → n ≡ in_units x.digits x.decimals d → n < 2 ^ 64 → n * 10 ^ x.decimals ≡ x.digits * 10 ^ d
exact_value w x d n h le is small =
    let found = above_decimals w x d w.exponent h refl le in
    let m : ℕ = found.0 in
    let no : w.is_cut ≡ false = uncut w x d m h found.1 (omega (arith, is, small)) in
    let none : x.digits % 10 ^ h.cut ≡ 0 = none_cut (x.digits % 10 ^ h.cut) w.is_cut h.is.is_cut no in
    let parts = in_parts x.digits h.cut x.decimals d m found.1 in
    let rest : x.digits % 10 ^ h.cut * 10 ^ d ≡ 0 * 10 ^ d = ap (λ r. r * 10 ^ d) none in
    let units : n ≡ x.digits / 10 ^ h.cut * 10 ^ m = is ∙ exact_above x.digits h.cut x.decimals d m found.1 none in
    let same : n * 10 ^ x.decimals ≡ x.digits / 10 ^ h.cut * 10 ^ m * 10 ^ x.decimals = ap (λ q. q * 10 ^ x.decimals) units in
    omega (arith, same, parts, rest)

pub exact_some : (o : Result Number Cause) (w : Wide) (d : ℕ) → decimals_of w.exponent ≤ d → d ≤ 18 → IfOk o (λ n. n.decimals ≡ d) → IfOk o (λ n. n.digits < 2 ^ 64)
    → IfOk o (λ n. (x : Number) → StandsFor w x → n.digits ≡ in_units x.digits x.decimals d) → IfOk o (λ n. (x : Number) → StandsFor w x → IsNarrowed None x n)
exact_some (Err cause) w d le few decimals small value = tt
exact_some (Ok n) w d le few decimals small value = λ x h. (
  omega (arith, decimals, few),
  exact_value w x d n.digits h le (value x h) small ∙ ap (λ e. x.digits * 10 ^ e) (sym decimals),
)

pub exact_error : (o : Result Number Cause) (w : Wide) (d : ℕ) → d ≤ 18
    → IfErr o (λ cause. (cause ≡ TooLarge) × ((x : Number) → StandsFor w x → 2 ^ 64 ≤ in_units x.digits x.decimals d))
    → IfErr o (λ cause. (x : Number) → StandsFor w x → IsNarrowError None x cause)
exact_error (Ok n) w d few h = tt
exact_error (Err cause) w d few (is, large) = λ x h. (
    let P : Cause → Type 0 = λ one. IsNarrowError None x one in
    subst P (sym is) (d, few, large x h)
    )

-- the sign of a power
pub not_below : (z : ℤ) → int_le (pos 0) z ≡ true → int_lt z (pos 0) ≡ false
not_below (pos n) h = grind (arith, nat_tests)
not_below (negsuc n) h = cc

pub is_below : (z : ℤ) → int_le (pos 0) z ≡ false → int_lt z (pos 0) ≡ true
is_below (pos n) h = absurd (let f : ⊥ = grind (arith, nat_tests) in f)
is_below (negsuc n) h = refl
