-- How many samples of batches are at most a value.
use Rattle.std.specs.Prelude.{◌≡◌, ◌==◌, ℕ, if◌then◌else◌, List, map, Option, Some, None}
use Rattle.std.specs.List.{sum_by}
use Rattle.hdr_model.specs.Plain.{Plain}
use Rattle.hdr_model.specs.Statistics.{quantile_below}
use Rattle.hdr_compare.specs.Effective.{effective_size}
use Rattle.hdr_compare.specs.declared.batch.Batch.{Batch}
use Rattle.hdr_compare.specs.declared.counting.Counted.{Counted}
use Rattle.hdr_compare.specs.declared.tiers.Tier.{Tier}

-- how many samples of a histogram are in the class of a value, or below it; none is without a value
abbrev pub upto : Option ℕ → Plain → ℕ
upto None h = 0
upto (Some v) h = if h.total == 0 then 0 else (quantile_below h v).num

-- the samples of batches, and how many of each are at most a value
pub record AreBatchesUpto (v : Option ℕ) (hs : List Plain) (batches : List Batch) : Type 0 where
  pub sizes : map (λ b. b.size) batches ≡ map (λ h. h.total) hs
  pub counts : map (λ b. b.count) batches ≡ map (upto v) hs

-- how many samples of batches are at most a value, and as how many independent ones all count by them
pub record IsCounted (tier : Tier) (hs : List Plain) (v : Option ℕ) (c : Counted) : Type 0 where
  pub batches : List Batch
  pub are : AreBatchesUpto v hs batches
  pub count : c.count ≡ sum_by (λ b. b.count) batches
  pub independent : c.independent ≡ effective_size tier batches
