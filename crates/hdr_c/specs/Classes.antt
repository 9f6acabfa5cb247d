-- The nonempty classes, one after another.
use Rattle.std.specs.Prelude.{◌≡◌, ◌<◌, ◌≤◌, ◌+◌, ℕ, Bool, true, false, List, length, slice_index}
use Rattle.hdr_base.specs.Classes.{value_of, top_of}
use Rattle.hdr_model.specs.Plain.{Plain, resolution}
use Rattle.hdr_c.specs.declared.classes.Class.{Class}

-- the first nonzero counter from an index on
pub record IsNextNonzero (counts : List ℕ) (from at : ℕ) : Type 0 where
  pub after : from ≤ at
  pub within : at < length counts
  pub nonzero : 0 < slice_index counts at
  pub none_before : (i : ℕ) → from ≤ i → i < at → slice_index counts i ≡ 0

-- no counter from an index on is nonzero
abbrev pub AllZeroFrom : List ℕ → ℕ → Type 0
AllZeroFrom counts from = (i : ℕ) → from ≤ i → i < length counts → slice_index counts i ≡ 0

-- the class of the first nonempty bin from an index on
pub record IsClassAt (h : Plain) (from at : ℕ) (c : Class) : Type 0 where
  pub is_next : IsNextNonzero h.counts from at
  pub next : c.next ≡ at + 1
  pub lowest : c.lowest ≡ value_of (resolution h) at
  pub highest : c.highest ≡ top_of (resolution h) c.lowest
  pub count : c.count ≡ slice_index h.counts at

-- the next class is stored, or there is none and nothing is stored
abbrev pub IsNextClass : Plain → Bool → Class → Class → Type 0
IsNextClass h true old new = (at : ℕ) × IsClassAt h old.next at new
IsNextClass h false old new = AllZeroFrom h.counts old.next × (new ≡ old)
