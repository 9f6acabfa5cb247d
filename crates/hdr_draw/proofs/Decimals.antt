-- Decimals of fractions, as texts.
use Rattle.std.proofs.Common.{◌≡◌, ℕ, ◌+◌, ◌-◌, ◌*◌, ◌^◌, ◌≤◌, List, ◌++◌, refl, sym, arith, append-nil, Result, Ok, Err, OnOk}
use Rattle.hdr_draw.specs.Numbers.{IsNearest, IsDecimalOf, decimal_text, exponent}

-- without an exponent
pub plain : (p d : ℕ) → decimal_text p d ≡ decimal_text p d ++ exponent 0
unfolding exponent
plain p d = sym (append-nil (decimal_text p d))

-- the nearest decimal without zeros at its end, times a power of ten
pub of_parts : (num den power p d q e : ℕ) → IsNearest num (den * 10 ^ power) (10 ^ d) p → e ≤ d → q * 10 ^ (d - e) ≡ p
    → IsDecimalOf num den (decimal_text q e ++ exponent power)
of_parts num den power p d q e n l s =
    let z : e + (d - e) ≡ d = omega (arith, l) in
    record {
      parts = q;
      decimals = e;
      zeros = d - e;
      power = power;
      nearest = rw (z, s) n;
      is = refl;
    }

-- the same without an exponent
pub of_trimmed : (num den p d q e : ℕ) → IsNearest num den (10 ^ d) p → e ≤ d → q * 10 ^ (d - e) ≡ p → IsDecimalOf num den (decimal_text q e)
of_trimmed num den p d q e n l s =
    let o : den * 10 ^ 0 ≡ den = omega arith in
    rw (plain q e) (of_parts num den 0 p d q e (rw o n) l s)

-- a decimal with all its zeros
pub of_nearest : (num den power p d : ℕ) → IsNearest num (den * 10 ^ power) (10 ^ d) p → IsDecimalOf num den (decimal_text p d ++ exponent power)
of_nearest num den power p d n =
    let z : d - d ≡ 0 = omega arith in
    let s : p * 10 ^ (d - d) ≡ p = rw z (omega arith) in
    of_parts num den power p d p d n (omega arith) s

-- what a call appended to a text is such a text
pub appended : {T E : Type 0} (r : Result T E) (P : List ℕ → Type 0) (old new added : List ℕ) → P added → OnOk r (new ≡ old ++ added)
    → OnOk r ((x : List ℕ) × P x × (new ≡ old ++ x))
appended (Ok v) P old new added p e = (added, p, e)
appended (Err v) P old new added p e = tt
