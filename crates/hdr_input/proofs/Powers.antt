-- Powers of ten.
use Rattle.std.proofs.Common.{◌≡◌, ℕ, ◌+◌, ◌-◌, ◌*◌, ◌^◌, ◌≤◌, min, max, Option, Some, None, IfSome, IfNone, inl, lit<, sym, ap, ◌∙◌, mul_assoc, arith}
use Rattle.std.proofs.Math.Nat.{pow-le-pow_right, mul-le-mul_left}
use Rattle.std.proofs.lemmas.Nat.{pow-add}
use Rattle.hdr_input.specs.declared.number.Number.{Number}
use Rattle.hdr_input.specs.declared.unit.Unit.{Unit}
use Rattle.hdr_input.specs.Units.{exponent, IsSameTime, IsTooGreat}

-- a power of ten with more than 19 zeros has more than 64 bits
pub great_power : (n : ℕ) → 20 ≤ n → 2 ^ 64 ≤ 10 ^ n
great_power n many =
    let least : 10 ^ 20 ≤ 10 ^ n = pow-le-pow_right (lit< tt) many in
    omega (arith, least)

by_powers : (d n a b e : ℕ) → n ≡ d * 10 ^ a → e ≡ a + b → d * 10 ^ e ≡ n * 10 ^ b
by_powers d n a b e is same =
    ap (λ k. d * 10 ^ k) same ∙ ap (λ p. d * p) (pow-add 10 a b) ∙ sym (mul_assoc d (10 ^ a) (10 ^ b)) ∙ ap (λ k. k * 10 ^ b) (sym is)

-- a number of a unit is multiplied by a power of ten, for one of which more are a second
pub multiplied : (number : Number) (from to : Unit) (low high : ℕ) (o : Option Number) → low ≡ exponent from → high ≡ exponent to → low ≤ high
    → IfSome o (λ n. n.digits ≡ number.digits * 10 ^ (high - low - min (high - low) number.decimals)) → IfSome o (λ n. n.decimals ≡ number.decimals - min (high - low) number.decimals)
    → IfSome o (λ n. IsSameTime number from n to)
multiplied number from to low high None f t l digits decimals = tt
multiplied number from to low high (Some n) f t l digits decimals =
    let more = high - low - min (high - low) number.decimals in
    let powers : n.decimals + exponent to ≡ more + (number.decimals + exponent from) = omega (arith, f, t, l, decimals) in
    by_powers number.digits n.digits more (number.decimals + exponent from) (n.decimals + exponent to) digits powers

-- digits that overflow with some of the zeros between two units overflow with all of them
pub too_great : (number : Number) (from to : Unit) (low high : ℕ) (o : Option Number) → low ≡ exponent from → high ≡ exponent to
    → IfNone o (2 ^ 64 ≤ max 1 number.digits * 10 ^ (high - low - min (high - low) number.decimals)) → IfNone o (IsTooGreat number from to)
too_great number from to low high (Some n) f t over = tt
too_great number from to low high None f t over =
    let fewer : high - low - min (high - low) number.decimals ≤ exponent to - exponent from = omega (arith, f, t) in
    let powers : 10 ^ (high - low - min (high - low) number.decimals) ≤ 10 ^ (exponent to - exponent from) = pow-le-pow_right (lit< tt) fewer in
    let products = mul-le-mul_left (max 1 number.digits) powers in
    inl (omega (arith, over, products))
