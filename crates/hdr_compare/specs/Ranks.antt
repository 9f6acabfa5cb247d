-- Which ranks are as near to a quantile as chance allows. (Zubkov and Serov 2013 bound the binomial distribution by the normal one of
-- its Kullback-Leibler distance, and Massart 1990 bounds that distance from below by this fraction.)
use Rattle.std.specs.Prelude.{ℕ, ◌+◌, ◌-◌, ◌*◌, ◌/◌, ◌^◌, ◌≤◌, min}
use Rattle.std.specs.Int.{div_ceil}
use Rattle.hdr_base.specs.Fractions.{Ratio}

-- k samples of n are far from the q * n that are expected, if the n samples count as e independent ones: farther than z
-- thousandths of a standard deviation, with the variance taken at a third of the way from q to k / n
abbrev pub IsFar : (n e : ℕ) → Ratio → (k z : ℕ) → Type 0
IsFar n e q k z =
    let near = 2 * q.num * n + k * q.den in
    let off = (k * q.den - q.num * n) + (q.num * n - k * q.den) in
    z * z * near * (3 * q.den * n - near) ≤ 9000000 * e * (off * off)

-- the same of 2^shift times fewer samples, with k nearer to q than it is
abbrev pub IsFarBelow : (shift n e : ℕ) → Ratio → (k z : ℕ) → Type 0
IsFarBelow shift n e q k z = let few = n / 2 ^ shift in IsFar few (min e few) q (div_ceil k (2 ^ shift)) z

abbrev pub IsFarAbove : (shift n e : ℕ) → Ratio → (k z : ℕ) → Type 0
IsFarAbove shift n e q k z = let few = div_ceil n (2 ^ shift) in IsFar few (min e few) q (k / 2 ^ shift) z
