-- The total of a histogram after values were recorded.
use Rattle.std.proofs.Common.{◌≡◌, ℕ, ◌+◌, ◌-◌, ◌^◌, ◌<◌, ◌≤◌, min, true, false, if◌then◌else◌, List, [], ◌∷◌, length, replicate, refl, ap, ◌∙◌, arith}
use Rattle.std.specs.Prelude.{nat_le}
use Rattle.std.proofs.lemmas.List.{length-append, length-replicate}
use Rattle.hdr_base.specs.Classes.{reach_of}
use Rattle.hdr_compare.specs.Batchings.{recorded}
use Rattle.hdr_model.specs.Correction.{after_correct, each_times, missing}
use Rattle.hdr_model.specs.Plain.{Plain, reach, resolution}
use Rattle.hdr_model.specs.Recording.{Times, after_add_to_bin, after_record, after_records, samples_of, with_bins_for, with_bins_to}

bins-total : (h : Plain) (v : ℕ) → (with_bins_for h v).total ≡ h.total
unfolding with_bins_for with_bins_to
bins-total h v = elim (nat_le v (reach h)) as (λ b. (if b then h else with_bins_to h (reach_of (resolution h) v)).total ≡ h.total) [
  | true ↦ refl
  | false ↦ refl
]

record-total : (greatest : ℕ) (h : Plain) (v n : ℕ) → (after_record greatest h v n).total ≡ min (h.total + n) (2 ^ 64 - 1)
unfolding after_record after_add_to_bin
record-total greatest h v n = ap (λ t. min (t + n) (2 ^ 64 - 1)) (bins-total h v)

-- each sample is counted, unless the total is the greatest
records-total : (greatest : ℕ) (h : Plain) (ts : List Times) → (after_records greatest h ts).total < 2 ^ 64 - 1
    → h.total + length (samples_of ts) ≡ (after_records greatest h ts).total
records-total greatest h [] less = omega arith
records-total greatest h (t ∷ ts) less =
    let rest = records-total greatest (after_record greatest h t.value t.times) ts less in
    let step = record-total greatest h t.value t.times in
    let more : length (samples_of (t ∷ ts)) ≡ t.times + length (samples_of ts)
    = length-append (replicate t.times t.value) (samples_of ts) ∙ ap (λ n. n + length (samples_of ts)) (length-replicate t.times t.value) in
    omega (arith, rest, step, more, less)

records-grow : (greatest : ℕ) (h : Plain) (ts : List Times) → h.total ≤ 2 ^ 64 - 1 → h.total ≤ (after_records greatest h ts).total
records-grow greatest h [] fits = omega arith
records-grow greatest h (t ∷ ts) fits =
    let step = record-total greatest h t.value t.times in
    let rest = records-grow greatest (after_record greatest h t.value t.times) ts (omega (arith, step)) in
    omega (arith, rest, step, fits)

pub correct-total : (greatest : ℕ) (h : Plain) (v i : ℕ) → (after_correct greatest h v 1 i).total < 2 ^ 64 - 1
    → h.total + length (recorded v i) ≡ (after_correct greatest h v 1 i).total
unfolding after_correct
correct-total greatest h v i = records-total greatest h (each_times 1 (v ∷ missing v i))

pub correct-grows : (greatest : ℕ) (h : Plain) (v i : ℕ) → h.total ≤ 2 ^ 64 - 1 → h.total ≤ (after_correct greatest h v 1 i).total
unfolding after_correct
correct-grows greatest h v i = records-grow greatest h (each_times 1 (v ∷ missing v i))
