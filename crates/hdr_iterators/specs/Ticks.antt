-- The state of the picker of ticks. (The fields of the Rust crate's `quantile::Iter`, there in floating point.)
use Rattle.std.specs.Prelude.{◌≡◌, ℕ, ◌+◌, ◌<◌, ◌≤◌, [], ◌∷◌, drop, slice_index, Option, MatchOption, Bool, true, false, nat_le, if◌then◌else◌, ◌⊎◌}
use Rattle.hdr_iterators.specs.Seen.{Seen, AreBins, capped, below}
use Rattle.hdr_iterators.specs.Picks.{bin_after}
use Rattle.hdr_iterators.specs.Places.{quantile_picks, ticks_before, is_within, tick_pick, all_of_them}

-- a tick by its index, and the number of ticks in each half of the distance to 1
pub record Ticked : Type 0 where
  pub per_half : ℕ
  pub number : ℕ

-- a tick as Ticked, and the total that it is of
pub record TickOf : Type 0 where
  pub per_half : ℕ
  pub number : ℕ
  pub total : ℕ

-- the least count of n that tick number k is at most
abbrev pub IsReachedAt : ℕ → ℕ → ℕ → ℕ → Type 0
IsReachedAt t k n least = (r : ℕ) → r ≤ n → is_within t r n k ≡ nat_le least r

-- how many picks were yielded: the ticks, and the one yielded as the total was reached
abbrev pub ticks_yielded : ℕ → Bool → ℕ
ticks_yielded k closing = if closing then k + 1 else k

-- no bin up to the one that was picked last has the total as its running count
abbrev pub IsOpen : Seen → Option ℕ → Type 0
IsOpen h last = (bin_after last ≡ 0) ⊎ (capped (below h (bin_after last)) < h.total)

-- with k ticks yielded: these are within the running count at the last pick; or the total was reached there, and 1 is to come
pub record TickStep (h : Seen) (t k : ℕ) (closing done : Bool) (last : Option ℕ) : Type 0 where
  pub plain : AreBins h
  pub some : 1 ≤ t
  pub going : closing ≡ false → (k ≤ ticks_before h t (bin_after last)) × IsOpen h last
  pub whole : closing ≡ true → done ≡ false → MatchOption last ⊥ (λ b. (drop (k + 1) (quantile_picks h t) ≡ tick_pick b all_of_them ∷ []) × (0 < slice_index h.numbers b))
