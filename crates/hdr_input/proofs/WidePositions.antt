-- Positions of wide numbers.
use Rattle.std.proofs.Common.{◌≡◌, ℕ, suc, zero, ◌+◌, ◌*◌, ◌/◌, ◌%◌, ◌^◌, ◌<◌, ◌≤◌, Bool, true, false, ◌||◌, nat_lt, min, ℤ, pos, negsuc, ◌+ℤ◌, unsigned_abs, refl, sym, ap, ◌∙◌, arith, lit<}
use Rattle.std.specs.Prelude.{if◌then◌else◌}
use Rattle.std.specs.Int.RustNames.{int_lt}
use Rattle.std.proofs.lemmas.Int.{ints}
use Rattle.std.proofs.lemmas.Bool.Decides.{nat_tests}
use Rattle.std.proofs.lemmas.Nat.{pow-add, div-mul-add, mod-mul-add, le-div, div-add-mod'}
use Rattle.std.proofs.Math.Nat.{mod-lt, le-mul_of_pos_right, div-mul-le_self, mul-le-mul_left, mul_comm, div-eq_of_lt, mul-div-mul_left, div-div-eq-div-mul, mul-le-mul_right, pow-le-pow_right}
use Rattle.hdr_input.specs.Bounds.{position_of}
use Rattle.hdr_input.specs.declared.number.Number.{Number}
use Rattle.hdr_input.specs.declared.wide.Wide.{Wide}
use Rattle.hdr_input.specs.Decimals.{StandsFor}
use Rattle.hdr_input.proofs.InUnits.{positive}
use Rattle.hdr_input.proofs.Exponents.{scaled}
use Rattle.hdr_input.proofs.RoundedWide.{places_above, none_cut, some_rest}
use Rattle.hdr_input.proofs.Rounded.{in_parts, at_least, rest_twice}

-- what is below a power of ten has no quotient
pub few_left : (n k : ℕ) → n < 2 ^ 128 → 2 ^ 128 ≤ 10 ^ k → n / 10 ^ k ≡ 0
few_left n k small great = div-eq_of_lt (let l : n < 10 ^ k = omega (arith, small, great) in l)

-- a quotient by a power of ten is at most a tenth
pub tenth : (n k : ℕ) → 0 < k → n / 10 ^ k * 10 ≤ n
tenth n k some =
    let ten : 10 ^ 1 ≤ 10 ^ k = pow-le-pow_right (lit< tt) (let l : 1 ≤ k = omega (arith, some) in l) in
    let most = div-mul-le_self n (10 ^ k) in
    let product : n / 10 ^ k * 10 ^ 1 ≤ n / 10 ^ k * 10 ^ k = mul-le-mul_left (n / 10 ^ k) ten in
    omega (arith, most, product)

pub great_product : (n k : ℕ) → 0 < n → 2 ^ 128 ≤ 10 ^ k → 2 ^ 128 ≤ n * 10 ^ k
great_product n k some great = let l : 1 * 10 ^ k ≤ n * 10 ^ k = mul-le-mul_right (10 ^ k) (let e : 1 ≤ n = omega (arith, some) in e) in omega (arith, l, great)

-- a quotient of multiples
quotients : (n P E J : ℕ) → 0 < E → 0 < P * J → (n * E / (E * (P * J)) ≡ n / P / J) × (n * E % (E * (P * J)) ≡ E * (n % (P * J)))
quotients n P E J some few = (
  ap (λ m. m / (E * (P * J))) (mul_comm n E) ∙ mul-div-mul_left n (P * J) some ∙ sym (div-div-eq-div-mul n P J),
  ap (λ m. n * E % m) (mul_comm E (P * J)) ∙ (scaled (n / (P * J)) (n % (P * J)) (P * J) n E (sym (div-add-mod' n (P * J))) (mod-lt n few) some).1 ∙ mul_comm (n % (P * J)) E,
)

one_of : (b : Bool) (E rest : ℕ) → 0 < E → b ≡ nat_lt 0 rest → (if b then 1 else 0) ≡ min 1 (E * rest)
one_of b E zero some is = rw is (let e : 0 ≡ min 1 (E * zero) = omega arith in e)
one_of b E (suc rest) some is =
    let test : nat_lt 0 (suc rest) ≡ true = grind (arith, nat_tests) in
    let large : E ≤ E * suc rest = le-mul_of_pos_right E (let l : 0 < suc rest = omega arith in l) in
    rw (is, test) (let e : 1 ≡ min 1 (E * suc rest) = omega (arith, large, some) in e)

-- the position of a number with more than 18 decimals
pub divided_position : (w : Wide) (x : Number) (power : ℤ) → StandsFor w x → power ≡ w.exponent +ℤ pos 18 → int_lt power (pos 0) ≡ true
    → 2 * (w.digits / 10 ^ unsigned_abs power) + (if w.is_cut || nat_lt 0 (w.digits % 10 ^ unsigned_abs power) then 1 else 0) ≡ position_of x
unfolding position_of
divided_position w x (pos n) h is below = absurd (let f : ⊥ = grind (arith, nat_tests) in f)
divided_position w x (negsuc i) h is below =
    let j : ℕ = suc i in
    let P : ℕ = 10 ^ h.cut in
    let J : ℕ = 10 ^ suc i in
    let E : ℕ = 10 ^ 18 in
    let places : x.decimals ≡ h.cut + 18 + suc i = omega (arith, ints, is, h.is.exponent) in
    let power_is : 10 ^ x.decimals ≡ E * (P * J) = ap (λ m. 10 ^ m) places ∙ pow-add 10 (h.cut + 18) (suc i) ∙ ap (λ m. m * J) (pow-add 10 h.cut 18) ∙ (let e : P * E * J ≡ E * (P * J) = omega arith in e) in
    let few : 0 < P * J = rw (pow-add 10 h.cut (suc i)) at (positive (h.cut + suc i)) in
    let both = quotients x.digits P E J (lit< tt) few in
    let quotient : x.digits * 10 ^ 18 / 10 ^ x.decimals ≡ w.digits / 10 ^ suc i = ap (λ m. x.digits * E / m) power_is ∙ both.0 ∙ ap (λ q. q / J) (sym h.is.digits) in
    let rest : x.digits * 10 ^ 18 % 10 ^ x.decimals ≡ E * (x.digits % (P * J)) = ap (λ m. x.digits * E % m) power_is ∙ both.1 in
    let parts : x.digits % (P * J) ≡ x.digits / P % J * P + x.digits % P = ap (λ m. x.digits % m) (sym (pow-add 10 h.cut (suc i))) ∙ rest_twice x.digits h.cut (suc i) in
    let cut : (w.is_cut || nat_lt 0 (w.digits % J)) ≡ nat_lt 0 (x.digits % (P * J)) =
    ap (λ q. w.is_cut || nat_lt 0 (q % J)) h.is.digits ∙ ap (λ b. b || nat_lt 0 (x.digits / P % J)) h.is.is_cut
    ∙ sym (some_rest (x.digits / P % J) (x.digits % P) P (positive h.cut)) ∙ ap (λ r. nat_lt 0 r) (sym parts) in
    let above = one_of (w.is_cut || nat_lt 0 (w.digits % J)) E (x.digits % (P * J)) (lit< tt) cut in
    ap (λ a. 2 * (w.digits / J) + a) above ∙ ap (λ q. 2 * q + min 1 (E * (x.digits % (P * J)))) (sym quotient) ∙ ap (λ r. 2 * (x.digits * 10 ^ 18 / 10 ^ x.decimals) + min 1 r) (sym rest)

-- the position of a number of units: exact, or past all bounds if digits were cut
whole_position : (w : Wide) (x : Number) (m : ℕ) (h : StandsFor w x) → h.cut + 18 ≡ x.decimals + m → w.is_cut ≡ false → position_of x ≡ 2 * (w.digits * 10 ^ m)
unfolding position_of
whole_position w x m h places exact =
    let none : x.digits % 10 ^ h.cut ≡ 0 = none_cut (x.digits % 10 ^ h.cut) w.is_cut h.is.is_cut exact in
    let parts = in_parts x.digits h.cut x.decimals 18 m places in
    let left : x.digits % 10 ^ h.cut * 10 ^ 18 ≡ 0 * 10 ^ 18 = ap (λ r. r * 10 ^ 18) none in
    let whole : x.digits / 10 ^ h.cut * 10 ^ m ≡ w.digits * 10 ^ m = ap (λ q. q * 10 ^ m) (sym h.is.digits) in
    let some = positive x.decimals in
    let same : x.digits * 10 ^ 18 ≡ x.digits / 10 ^ h.cut * 10 ^ m * 10 ^ x.decimals + 0 = omega (arith, parts, left) in
    let quotient : x.digits * 10 ^ 18 / 10 ^ x.decimals ≡ x.digits / 10 ^ h.cut * 10 ^ m = ap (λ n. n / 10 ^ x.decimals) same ∙ div-mul-add (x.digits / 10 ^ h.cut * 10 ^ m) (10 ^ x.decimals) 0 some in
    let rest : x.digits * 10 ^ 18 % 10 ^ x.decimals ≡ 0 = ap (λ n. n % 10 ^ x.decimals) same ∙ mod-mul-add (x.digits / 10 ^ h.cut * 10 ^ m) (10 ^ x.decimals) 0 some in
    omega (arith, quotient, rest, whole)

great_position : (w : Wide) (x : Number) (m : ℕ) (h : StandsFor w x) → h.cut + 18 ≡ x.decimals + m → 2 ^ 124 ≤ w.digits → 2 ^ 125 ≤ position_of x
unfolding position_of
great_position w x m h places great =
    let parts = in_parts x.digits h.cut x.decimals 18 m places in
    let more : w.digits ≤ w.digits * 10 ^ m = at_least w.digits m in
    let whole : x.digits / 10 ^ h.cut * 10 ^ m ≡ w.digits * 10 ^ m = ap (λ q. q * 10 ^ m) (sym h.is.digits) in
    let most = le-div (x.digits / 10 ^ h.cut * 10 ^ m) (x.digits * 10 ^ 18) (10 ^ x.decimals) (positive x.decimals) (omega (arith, parts)) in
    omega (arith, most, whole, more, great)

multiplied_by : (w : Wide) (x : Number) (m : ℕ) (h : StandsFor w x) (cut : Bool) → w.is_cut ≡ cut → h.cut + 18 ≡ x.decimals + m
    → min (2 * (w.digits * 10 ^ m) + (if cut then 1 else 0)) (2 ^ 125) ≡ min (position_of x) (2 ^ 125)
multiplied_by w x m h false is places = let same = whole_position w x m h places is in omega (arith, same)
multiplied_by w x m h true is places =
    let great = h.large is in
    let past = great_position w x m h places great in
    let more : w.digits ≤ w.digits * 10 ^ m = at_least w.digits m in
    omega (arith, great, past, more)

pub multiplied_position : (w : Wide) (x : Number) (power : ℤ) → StandsFor w x → power ≡ w.exponent +ℤ pos 18 → int_lt power (pos 0) ≡ false
    → min (2 * (w.digits * 10 ^ unsigned_abs power) + (if w.is_cut then 1 else 0)) (2 ^ 125) ≡ min (position_of x) (2 ^ 125)
multiplied_position w x power h is above = multiplied_by w x (unsigned_abs power) h w.is_cut refl (places_above w x 18 power h is above)

pub zero_position : (w : Wide) (x : Number) (power : ℤ) → StandsFor w x → power ≡ w.exponent +ℤ pos 18 → int_lt power (pos 0) ≡ false → w.digits ≡ 0 → position_of x ≡ 0
zero_position w x power h is above none =
    let exact : w.is_cut ≡ false = small w.is_cut h.large in
    let product : w.digits * 10 ^ unsigned_abs power ≡ 0 * 10 ^ unsigned_abs power = ap (λ q. q * 10 ^ unsigned_abs power) none in
    let same = whole_position w x (unsigned_abs power) h (places_above w x 18 power h is above) exact in
    omega (arith, same, product)
  where
    small : (cut : Bool) → (cut ≡ true → 2 ^ 124 ≤ w.digits) → cut ≡ false
    small false large = refl
    small true large = let great = large refl in absurd (let f : ⊥ = omega (arith, great, none) in f)

pub below_some : (z : ℤ) → int_lt z (pos 0) ≡ true → 0 < unsigned_abs z
below_some (pos n) h = absurd (let f : ⊥ = grind (arith, nat_tests) in f)
below_some (negsuc n) h = omega arith
