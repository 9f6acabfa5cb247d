-- Logarithms of twice a number.
use Rattle.std.proofs.Common.{◌≡◌, ℕ, ◌+◌, ◌-◌, ◌*◌, ◌/◌, ◌^◌, ◌<◌, ◌≤◌, max, arith, refl, ap, add-one}
use Rattle.std.proofs.Math.Nat.{pow-suc, one-le-pow, div-div-eq-div-mul, mul-div_cancel_left}
use Rattle.hdr_draw.proofs.Ascending.{same_logarithm}
use Rattle.hdr_draw.specs.Scales.{Extent, along, HasQuantile, IsQuantilePlace, IsQuantileScale}
use Rattle.hdr_draw.specs.Logarithm.{bend, IsLogarithm}

halves : (m n d e : ℕ) → m ≡ 2 * n → e ≡ d * 2 → m * 65536 / e ≡ n * 65536 / d
halves m n d e p q =
    let a : m * 65536 ≡ 2 * (n * 65536) = omega (arith, p) in
    let f : e ≡ 2 * d = omega (arith, q) in
    rw (a, f, ← div-div-eq-div-mul (2 * (n * 65536)) 2 d) (ap (λ k. k / d) (mul-div_cancel_left (n * 65536) (omega arith)))

pub doubled : (v n : ℕ) → IsLogarithm v n → IsLogarithm (2 * v) (n + 65536)
doubled v n l =
    let b : ℕ = l.bits in
    let p : 2 ^ (b + 1) ≡ 2 ^ b * 2 = rw add-one (pow-suc 2 b) in
    let q : 0 < 2 ^ b = one-le-pow b 2 (omega arith) in
    let d : (2 * v - 2 ^ (b + 1)) * 65536 / 2 ^ (b + 1) ≡ (v - 2 ^ b) * 65536 / 2 ^ b = halves (2 * v - 2 ^ (b + 1)) (v - 2 ^ b) (2 ^ b) (2 ^ (b + 1)) (omega (arith, p)) p in
    let i : n ≡ 65536 * b + bend ((v - 2 ^ b) * 65536 / 2 ^ b) = l.is in
    record {
      bits = b + 1;
      at_least = omega (arith, p, l.at_least);
      below = omega (arith, p, l.below);
      is = rw d (omega (arith, i));
    }

pub of_1 : IsLogarithm 1 0
unfolding bend
of_1 = record {
  bits = 0;
  at_least = omega (arith);
  below = omega arith;
  is = refl;
}

-- where the quantile lies that half a sample is above
pub last_place : (e : Extent) (length samples n place : ℕ) → IsLogarithm (max 1 samples) n → place ≡ along e length (n + 65536)
    → IsQuantilePlace e length (2 * max 1 samples) 1 place
last_place e length samples n place l h =
    let m : max 1 (2 * max 1 samples) ≡ 2 * max 1 samples = omega arith in
    let z : n + 65536 - 0 ≡ n + 65536 = omega arith in
    record {
      of_samples = n + 65536;
      of_part = 0;
      samples_logarithm = rw m (doubled (max 1 samples) n l);
      part_logarithm = of_1;
      is = rw z h;
    }

pub scale : (e : Extent) (samples n hundred : ℕ) → IsLogarithm (max 1 samples) n → IsLogarithm 100 hundred → e.from ≡ 0
    → e.span ≡ max hundred (n + 65536) → IsQuantileScale e samples
scale e samples n hundred l k f s = record {
  of_twice = n + 65536;
  of_hundred = hundred;
  twice_logarithm = doubled (max 1 samples) n l;
  hundred_logarithm = k;
  from = f;
  span = s;
}

pub within_scale : (e : Extent) (inverse n : ℕ) → IsLogarithm (max 1 inverse) n → HasQuantile e inverse → n ≤ e.from + e.span
within_scale e inverse n l h =
    let s : n ≡ h.logarithm = same_logarithm (max 1 inverse) n h.logarithm l h.of_inverse in
    omega (arith, s, h.within)
