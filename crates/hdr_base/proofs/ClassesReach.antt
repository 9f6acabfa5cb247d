-- Bins, and the greatest value that they hold.
use Rattle.std.proofs.Common.{◌≡◌, ℕ, ◌+◌, ◌-◌, ◌*◌, ◌/◌, ◌^◌, ◌<◌, ◌≤◌, refl, ap, ◌∙◌, arith, inl, inr}
use Rattle.std.proofs.lemmas.Bool.{cases_lt}
use Rattle.std.proofs.lemmas.Nat.{pow_pos, div-mul-add}
use Rattle.hdr_base.specs.Classes.{Resolution, bucket, bin_of, reach_of, width_of, bins_to}
use Rattle.hdr_base.proofs.ClassesLaws.{pow_mono_le, bucket-is, bucket-end, bucket-begin, bin-mono, bin-later, end-as-product, two-halves}
use Rattle.hdr_base.proofs.ClassesScale.{bucket-bound}

pub reach-holds : (g : Resolution) (x : ℕ) → x ≤ reach_of g x
unfolding reach_of
reach-holds g x = omega (arith, bucket-end g x)

pub reach-bucket : (g : Resolution) (x : ℕ) → bucket g (reach_of g x) ≡ bucket g x
unfolding reach_of
reach-bucket g x =
    bucket-is g (2 ^ (g.unit + g.digits + bucket g x) - 1) (bucket g x)
    (omega (arith, pow_pos (g.unit + g.digits + bucket g x)))
    (λ h. omega (arith, bucket-begin g x h, bucket-end g x))

pub reach-reach : (g : Resolution) (x : ℕ) → reach_of g (reach_of g x) ≡ reach_of g x
unfolding reach_of
reach-reach g x = ap (λ (k : ℕ). 2 ^ (g.unit + g.digits + k) - 1) (reach-bucket g x)

pub within-bins : (g : Resolution) (x v : ℕ) → 0 < g.digits → v ≤ reach_of g x → bin_of g v < bins_to g x
unfolding bins_to
within-bins g x v m h = omega (arith, bin-mono g v (reach_of g x) m h)

pub past-bins : (g : Resolution) (x v : ℕ) → 0 < g.digits → reach_of g x < v → bins_to g x ≤ bin_of g v
unfolding bins_to reach_of
past-bins g x v m h =
    let later : bucket g x < bucket g v =
    elim (cases_lt (bucket g x) (bucket g v)) [
      | inl lt ↦ lt
      | inr le ↦ absurd (omega (arith, bucket-end g v, pow_mono_le (g.unit + g.digits + bucket g v) (g.unit + g.digits + bucket g x) (omega arith)))
    ] in
    omega (arith, bin-later g (reach_of g x) v m (omega (arith, reach-bucket g x)))

pub bins-mono : (g : Resolution) (x v : ℕ) → 0 < g.digits → reach_of g x < v → bins_to g x ≤ bins_to g v
bins-mono g x v m h = omega (arith, past-bins g x v m h, within-bins g v v m (reach-holds g v))

pub reach-fits : (g : Resolution) (x : ℕ) → x < 2 ^ 64 → g.unit + g.digits ≤ 63 → reach_of g x < 2 ^ 64
unfolding reach_of
reach-fits g x h f = omega (arith, pow_pos (g.unit + g.digits + bucket g x), pow_mono_le (g.unit + g.digits + bucket g x) 64 (bucket-bound g x h f))

pub bins_by : (g : Resolution) (v : ℕ) → bin_of g (reach_of g v) + 1 ≡ bins_to g v
unfolding bins_to
bins_by g v = refl

-- the classes up to a value's reach fill its buckets' blocks and one more
pub bins-blocks : (g : Resolution) (x : ℕ) → 0 < g.digits → bins_to g x ≡ (bucket g x + 1 + 1) * 2 ^ (g.digits - 1)
unfolding bins_to bin_of width_of reach_of
bins-blocks g x m =
    let k = bucket g x in
    let w = 2 ^ (g.unit + k) in
    let r = 2 ^ (g.unit + g.digits + k) - 1 in
    let same : bucket g r ≡ k = reach-bucket-of g x in
    let split : r ≡ (2 ^ g.digits - 1) * w + (w - 1) =
    (let row : 2 ^ g.digits * w ≡ (2 ^ g.digits - 1) * w + w = (let e : 2 ^ g.digits ≡ (2 ^ g.digits - 1) + 1 = omega (arith, pow_pos g.digits) in ap (λ (y : ℕ). y * w) e ∙ (let t : ((2 ^ g.digits - 1) + 1) * w ≡ (2 ^ g.digits - 1) * w + w = omega arith in t)) in
    omega (arith, end-as-product g x k, pow_pos (g.unit + k))) in
    let place : r / w ≡ 2 ^ g.digits - 1 = ap (λ (y : ℕ). y / w) split ∙ div-mul-add (2 ^ g.digits - 1) w (w - 1) (omega (arith, pow_pos (g.unit + k))) in
    let at : bucket g r * 2 ^ (g.digits - 1) + r / 2 ^ (g.unit + bucket g r) ≡ k * 2 ^ (g.digits - 1) + (2 ^ g.digits - 1) =
    ap (λ (b : ℕ). b * 2 ^ (g.digits - 1) + r / 2 ^ (g.unit + b)) same ∙ ap (λ (q : ℕ). k * 2 ^ (g.digits - 1) + q) place in
    omega (arith, at, two-halves g.digits m, pow_pos g.digits)
  where
    reach-bucket-of : (g : Resolution) (x : ℕ) → bucket g (2 ^ (g.unit + g.digits + bucket g x) - 1) ≡ bucket g x
    reach-bucket-of g x =
        bucket-is g (2 ^ (g.unit + g.digits + bucket g x) - 1) (bucket g x)
        (omega (arith, pow_pos (g.unit + g.digits + bucket g x)))
        (λ h. omega (arith, bucket-begin g x h, bucket-end g x))
