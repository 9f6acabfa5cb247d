-- Batches of which samples were counted.
use Rattle.std.proofs.Common.{◌≡◌, ℕ, List, Option, length, rules}
use Rattle.std.specs.List.{sum_by}
use Rattle.std.proofs.lemmas.List.{length-map}
use Rattle.std.proofs.lemmas.List.Sums.{sum-map}
use Rattle.hdr_model.specs.Plain.{Plain}
use Rattle.hdr_compare.specs.Counted.{AreBatchesUpto}
use Rattle.hdr_compare.specs.declared.batch.Batch.{Batch}

-- they have as many samples
pub sizes_are : (v : Option ℕ) (hs : List Plain) (batches : List Batch) → AreBatchesUpto v hs batches → sum_by (λ b. b.size) batches ≡ sum_by (λ h. h.total) hs
sizes_are v hs batches are = search (rules, sum-map (λ (b : Batch). b.size) batches, sum-map (λ (h : Plain). h.total) hs, are.sizes)

-- and are as many
pub many_as : (v : Option ℕ) (hs : List Plain) (batches : List Batch) → AreBatchesUpto v hs batches → length batches ≡ length hs
many_as v hs batches are = search (rules, length-map batches (λ (b : Batch). b.size), length-map hs (λ (h : Plain). h.total), are.sizes)
