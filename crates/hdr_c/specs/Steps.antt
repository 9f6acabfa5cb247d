-- The steps of an iteration over a histogram, in the caller's memory.
use Rattle.std.specs.Prelude.{◌≡◌, ◌⊎◌, ◌<◌, ◌≤◌, ℕ, min, List, length, map, slice_index}
use Rattle.hdr_base.specs.Items.{Item}

-- the first n of these numbers are at the start of the buffer now, and what follows is unchanged
pub record AreStored (numbers : List ℕ) (n : ℕ) (old new : List ℕ) : Type 0 where
  pub same_length : length new ≡ length old
  pub stored : (i : ℕ) → i < n → slice_index new i ≡ slice_index numbers i
  pub rest : (i : ℕ) → n ≤ i → slice_index new i ≡ slice_index old i

abbrev pub item_values : List Item → List ℕ
item_values items = map (λ (item : Item). item.value) items

abbrev pub item_counts : List Item → List ℕ
item_counts items = map (λ (item : Item). item.since) items

-- the values iterated to and the samples since the step before are stored, of as many items as fit both buffers
pub record AreSteps (items : List Item) (n : ℕ) (values values_now counts counts_now : List ℕ) : Type 0 where
  pub number : n ≡ min (min (length values) (length counts)) (length items)
  pub have_values : AreStored (item_values items) n values values_now
  pub have_counts : AreStored (item_counts items) n counts counts_now

-- the steps are stored, or an argument of the iteration is invalid and nothing is
abbrev pub StoresSteps : ℕ → Type 0 → List Item → ℕ → List ℕ → List ℕ → List ℕ → List ℕ → Type 0
StoresSteps status Invalid items done values values_now counts counts_now =
    ((status ≡ 0) × AreSteps items done values values_now counts counts_now)
    ⊎ ((status ≡ 30) × Invalid × (done ≡ 0) × (values_now ≡ values) × (counts_now ≡ counts))

-- a closed handle has no steps
abbrev pub StoresNone : ℕ → ℕ → List ℕ → List ℕ → List ℕ → List ℕ → Type 0
StoresNone status done values values_now counts counts_now = (status ≡ 1) × (done ≡ 0) × (values_now ≡ values) × (counts_now ≡ counts)
