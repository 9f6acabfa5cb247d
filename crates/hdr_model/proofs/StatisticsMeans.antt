-- The sum of numbers weighed by their classes.
use Rattle.std.proofs.Common.{◌≡◌, ℕ, zero, suc, ◌+◌, ◌-◌, ◌*◌, ◌^◌, ◌<◌, List, [], ◌∷◌, length, get_or, take, Some, None, refl, ap, arith, eq-eqb}
use Rattle.hdr_base.specs.Classes.{Resolution, value_of}
use Rattle.hdr_model.specs.Plain.{Plain, resolution}
use Rattle.hdr_model.specs.Statistics.{median_of, weight_from, mean}
use Rattle.hdr_model.proofs.RecordingStands.{eqb-other}

-- one number more
pub weighed-more : (g : Resolution) (k : ℕ) (ns : List ℕ) (i : ℕ) → i < length ns
    → weight_from g k (take (i + 1) ns) ≡ weight_from g k (take i ns) + median_of g (value_of g (k + i)) * get_or ns i 0
weighed-more g k [] i lt = absurd (omega arith)
weighed-more g k (n ∷ ns) zero lt =
    let e : median_of g (value_of g k) * n ≡ median_of g (value_of g (k + 0)) * n = ap (λ j. median_of g (value_of g j) * n) (let z : k ≡ k + 0 = omega arith in z) in
    omega (arith, e)
weighed-more g k (n ∷ ns) (suc i) lt =
    let e : median_of g (value_of g (suc k + i)) * get_or ns i 0 ≡ median_of g (value_of g (k + suc i)) * get_or ns i 0 = ap (λ j. median_of g (value_of g j) * get_or ns i 0) (let z : suc k + i ≡ k + suc i = omega arith in z) in
    let on : weight_from g k (take (suc i + 1) (n ∷ ns)) ≡ weight_from g k (take (suc (i + 1)) (n ∷ ns)) = ap (λ j. weight_from g k (take j (n ∷ ns))) (let z : suc i + 1 ≡ suc (i + 1) = omega arith in z) in
    omega (arith, weighed-more g (suc k) ns i (omega (arith, lt)), e, on)

pub mean-full : (h : Plain) → h.total ≡ 2 ^ 64 - 1 → mean h ≡ None
unfolding mean
mean-full h e = rw (eq-eqb h.total (2 ^ 64 - 1) e) refl

pub mean-nothing : (h : Plain) → h.total ≡ 0 → mean h ≡ Some (record { num = 0; den = 1 })
unfolding mean
mean-nothing h e = rw (eqb-other h.total (2 ^ 64 - 1) (λ z. omega (arith, z, e)), eq-eqb h.total 0 e) refl

pub mean-some : (h : Plain) → 0 < h.total → h.total < 2 ^ 64 - 1 → mean h ≡ Some (record { num = weight_from (resolution h) 0 h.counts; den = h.total })
unfolding mean
mean-some h some less = rw (eqb-other h.total (2 ^ 64 - 1) (λ z. omega (arith, z, less)), eqb-other h.total 0 (λ z. omega (arith, z, some))) refl
