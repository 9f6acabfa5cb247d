-- Classes are intervals one after the other, and their exponents are the least.
use Rattle.std.proofs.Common.{◌≡◌, ℕ, ◌+◌, ◌-◌, ◌*◌, ◌/◌, ◌^◌, ◌%◌, ◌<◌, ◌≤◌, refl, sym, ap, ◌∙◌, arith, inl, inr}
use Rattle.std.proofs.lemmas.Bool.{cases_lt}
use Rattle.std.proofs.lemmas.Nat.{pow_pos, pow-add, mul-le, one_shl}
use Rattle.std.proofs.Math.Nat.{mod-le}
use Rattle.hdr_base.specs.Classes.{IsLeast, AreEquivalent, Resolution, bucket, width_of, lowest_of, top_of, bin_of, reach_of}
use Rattle.hdr_base.proofs.ClassesLaws.{pow_mono_le, bucket-end, bucket-least, bucket-begin, bucket-is, width-pos, lowest-as-product, lowest-le, top-above, same-bin, bin-lowest, bin-top, place-below, place-above, two-halves}
use Rattle.hdr_base.proofs.ClassesScale.{value-bin, value-lowest}

pub bucket-IsLeast : (g : Resolution) (v : ℕ) → IsLeast (λ k. v < 2 ^ (g.unit + g.digits + k)) (bucket g v)
bucket-IsLeast g v = record { holds = bucket-end g v; least = λ j h. bucket-least g v j h }

pub width-IsLeast : (g : Resolution) (v : ℕ) → IsLeast (λ w. (k : ℕ) × (w ≡ 2 ^ (g.unit + k)) × (v < 2 ^ (g.unit + g.digits + k))) (width_of g v)
unfolding width_of
width-IsLeast g v = record {
  holds = (bucket g v, refl, bucket-end g v);
  least = λ w h. (
      let le : bucket g v ≤ h.0 = bucket-least g v h.0 h.2 in
      omega (arith, h.1, pow_mono_le (g.unit + bucket g v) (g.unit + h.0) (omega arith))
      );
}

pub reach-IsLeast : (g : Resolution) (v : ℕ) → IsLeast (λ r. (k : ℕ) × (r ≡ 2 ^ (g.unit + g.digits + k) - 1) × (v ≤ r)) (reach_of g v)
unfolding reach_of
reach-IsLeast g v = record {
  holds = (bucket g v, refl, omega (arith, bucket-end g v));
  least = λ r h. (
      let below : v < 2 ^ (g.unit + g.digits + h.0) = omega (arith, h.1, h.2, pow_pos (g.unit + g.digits + h.0)) in
      let le : bucket g v ≤ h.0 = bucket-least g v h.0 below in
      omega (arith, h.1, pow_mono_le (g.unit + g.digits + bucket g v) (g.unit + g.digits + h.0) (omega arith))
      );
}

-- the exponent of the unit, by its two bounds
pub unit-IsLeast : (low u : ℕ) → 2 ^ u ≤ low → low < 2 * 2 ^ u → IsLeast (λ j. low < 2 ^ (j + 1)) u
unit-IsLeast low u from below = record {
  holds = omega (arith, pow-add 2 u 1);
  least = λ j h. elim (cases_lt j u) [
    | inl lt ↦ absurd (omega (arith, h, pow_mono_le (j + 1) u (omega arith)))
    | inr ge ↦ ge
  ];
}

-- a value below 2 ^ 46 has a unit of at most 45
pub unit-small : (low u : ℕ) → 2 ^ u ≤ low → low < 2 ^ 46 → u ≤ 45
unit-small low u from below = elim (cases_lt 45 u) [ inl lt ↦ absurd (omega (arith, pow_mono_le 46 u lt)) | inr le ↦ le ]

-- values of one class have one number, and values of one number have one class
pub equivalent-bin : (g : Resolution) (a b : ℕ) → 0 < g.digits → AreEquivalent g a b → bin_of g a ≡ bin_of g b
unfolding top_of
equivalent-bin g a b m e =
    same-bin g b a m (omega (arith, e.lowest, lowest-le g a)) (omega (arith, e.lowest, e.top, top-above g a, width-pos g a, width-pos g b))

pub bin-equivalent : (g : Resolution) (a b : ℕ) → 0 < g.digits → bin_of g a ≡ bin_of g b → AreEquivalent g a b
bin-equivalent g a b m e = record { lowest = bin-lowest g a b m e; top = bin-top g a b m e }

-- the first class starts at 0
pub lowest-first : (g : Resolution) → lowest_of g 0 ≡ 0
lowest-first g = omega (arith, lowest-le g 0)

pub bin-first : (g : Resolution) → bin_of g 0 ≡ 0
unfolding bin_of
bin-first g =
    let k : bucket g 0 ≡ 0 = omega (arith, bucket-least g 0 0 (pow_pos (g.unit + g.digits + 0))) in
    let w = width_of g 0 in
    let q = 0 / w in
    let none : q ≡ 0 = omega (arith, lowest-first g, lowest-as-product g 0, mul-le q 1 q w (omega arith) (width-pos g 0)) in
    ap (λ (b : ℕ). b * 2 ^ (g.digits - 1) + q) k ∙ (let t : 0 * 2 ^ (g.digits - 1) + q ≡ 0 = omega arith in t)

-- a value between the ends of a class is of that class
pub inside-class : (g : Resolution) (v x : ℕ) → 0 < g.digits → lowest_of g v ≤ x → x ≤ top_of g v → AreEquivalent g x v
unfolding top_of
inside-class g v x m from to = bin-equivalent g x v m (same-bin g v x m from (omega (arith, width-pos g v)))

-- the next class starts after the top of one, and has the next number
module _ (g : Resolution) (v : ℕ) (m : 0 < g.digits) where
  next-begins : (k q : ℕ) → top_of g v + 1 ≡ q * 2 ^ (g.unit + k) → q < 2 ^ g.digits → (0 < k → 2 ^ (g.digits - 1) ≤ q)
      → (lowest_of g (top_of g v + 1) ≡ top_of g v + 1) × (bin_of g (top_of g v + 1) ≡ k * 2 ^ (g.digits - 1) + q)
  next-begins k q is below above = (
    ap (λ (x : ℕ). lowest_of g x) is ∙ value-lowest g k q m below above ∙ sym is,
    ap (λ (x : ℕ). bin_of g x) is ∙ value-bin g k q m below above,
  )

  pub next-class : (lowest_of g (top_of g v + 1) ≡ top_of g v + 1) × (bin_of g (top_of g v + 1) ≡ bin_of g v + 1)
  unfolding top_of width_of bin_of
  next-class =
      let k = bucket g v in
      let w = 2 ^ (g.unit + k) in
      let q = v / w in
      let end : top_of g v + 1 ≡ (q + 1) * w = omega (arith, lowest-as-product g v, width-pos g v) in
      elim (cases_lt (q + 1) (2 ^ g.digits)) [
        | inl lt ↦ (
            let here = next-begins k (q + 1) end lt (λ (p : 0 < k). omega (arith, place-above g v m p)) in
            (here.0, here.1 ∙ (let t : k * 2 ^ (g.digits - 1) + (q + 1) ≡ k * 2 ^ (g.digits - 1) + q + 1 = omega arith in t))
            )
        | inr ge ↦ (
            let H = 2 ^ (g.digits - 1) in
            let last : q + 1 ≡ H + H = omega (arith, place-below g v, two-halves g.digits m) in
            let wide : 2 ^ (g.unit + (k + 1)) ≡ w + w = (let e : g.unit + (k + 1) ≡ (g.unit + k) + 1 = omega arith in ap (λ (x : ℕ). 2 ^ x) e ∙ pow-add 2 (g.unit + k) 1 ∙ (let t : w * 2 ^ 1 ≡ w + w = omega arith in t)) in
            let is : top_of g v + 1 ≡ H * 2 ^ (g.unit + (k + 1)) =
            end ∙ ap (λ (x : ℕ). x * w) last ∙ (let t : (H + H) * w ≡ H * (w + w) = omega arith in t) ∙ sym (ap (λ (x : ℕ). H * x) wide) in
            let here = next-begins (k + 1) H is (omega (arith, two-halves g.digits m, pow_pos (g.digits - 1))) (λ p. omega arith) in
            (here.0, here.1 ∙ (let t : (k + 1) * H + H ≡ k * H + q + 1 = omega (arith, last) in t))
            )
      ]

-- a bucket starts at 0 or at a power of two, and its values lie between that and any of them
bucket-mono : (g : Resolution) (x v : ℕ) → x ≤ v → bucket g x ≤ bucket g v
bucket-mono g x v le = bucket-least g x (bucket g v) (omega (arith, bucket-end g v))

pub start-IsLeast : (g : Resolution) (v s : ℕ) → bucket g s ≡ bucket g v → (0 < bucket g v → s ≡ 2 ^ (g.unit + g.digits + (bucket g v - 1))) → (bucket g v ≡ 0 → s ≡ 0)
    → IsLeast (λ x. bucket g x ≡ bucket g v) s
start-IsLeast g v s same power first = record {
  holds = same;
  least = λ x e. elim (cases_lt 0 (bucket g v)) [
    | inl lt ↦ omega (arith, power lt, ap (λ k. 2 ^ (g.unit + g.digits + (k - 1))) e, bucket-begin g x (omega (arith, e)))
    | inr ge ↦ omega (arith, first (omega arith))
  ];
}

pub one-bucket : (g : Resolution) (v s x : ℕ) → bucket g s ≡ bucket g v → s ≤ x → x ≤ v → bucket g x ≡ bucket g v
one-bucket g v s x same from to = omega (arith, bucket-mono g s x from, bucket-mono g x v to, same)

-- the values from the start of a bucket above the first on have that bucket
pub start-bucket : (g : Resolution) (v : ℕ) → 0 < bucket g v → bucket g (2 ^ (g.unit + g.digits + (bucket g v - 1))) ≡ bucket g v
start-bucket g v some =
    let k = bucket g v in
    let more : 2 ^ (g.unit + g.digits + (k - 1)) < 2 ^ (g.unit + g.digits + k) =
    omega (arith, pow-add 2 (g.unit + g.digits + (k - 1)) 1, ap (λ e. 2 ^ e) (let e : g.unit + g.digits + (k - 1) + 1 ≡ g.unit + g.digits + k = omega arith in e), pow_pos (g.unit + g.digits + (k - 1))) in
    bucket-is g (2 ^ (g.unit + g.digits + (k - 1))) k more (λ _. omega arith)

-- the width of a class and its number, by those of another value of its bucket
pub one-bucket-width : (g : Resolution) (x v : ℕ) → bucket g x ≡ bucket g v → width_of g x ≡ width_of g v
unfolding width_of
one-bucket-width g x v e = ap (λ k. 2 ^ (g.unit + k)) e

pub one-bucket-bin : (g : Resolution) (x v : ℕ) → bucket g x ≡ bucket g v → bin_of g x + v / width_of g v ≡ bin_of g v + x / width_of g v
unfolding bin_of
one-bucket-bin g x v e =
    omega (arith, ap (λ k. k * 2 ^ (g.digits - 1)) e, ap (λ w. x / w) (one-bucket-width g x v e))

-- a power of two, shifted
pub start-code : (e : ℕ) → e < 64 → 1 * 2 ^ e % 2 ^ 64 ≡ 2 ^ e
start-code e h = one_shl e 64 h

-- a value's number, from the width in its bucket
pub place-le-bin : (g : Resolution) (v : ℕ) → v / width_of g v ≤ bin_of g v
unfolding bin_of
place-le-bin g v = omega arith

pub place-bin : (g : Resolution) (x v b : ℕ) → bucket g x ≡ bucket g v → b ≡ bin_of g v → b - v / width_of g v + x / width_of g v ≡ bin_of g x
place-bin g x v b same bin = omega (arith, bin, place-le-bin g v, one-bucket-bin g x v same)

-- how far a value lies above the lowest of its class
pub place-span : (g : Resolution) (x v : ℕ) → bucket g x ≡ bucket g v → x % width_of g v + lowest_of g x ≡ x
unfolding lowest_of
place-span g x v same = omega (arith, ap (λ w. x % w) (one-bucket-width g x v same), mod-le x (width_of g x))
