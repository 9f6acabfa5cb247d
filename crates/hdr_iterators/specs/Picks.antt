-- What an iterator over a histogram yields: picks of bins, and the items that are made of them. (`PickMetadata` and
-- `IterationValue`. The Rust crate's `HistogramIterator` yields them step by step; here they are lists.)
use Rattle.std.specs.Prelude.{◌≡◌, ℕ, ◌+◌, ◌-◌, ◌<◌, ◌≤◌, List, [], ◌∷◌, slice_index, Option, Some, None, MatchOption, unwrap_or}
use Rattle.hdr_base.specs.Fractions.{Ratio}
use Rattle.hdr_base.specs.Items.{Item}
use Rattle.hdr_iterators.specs.Seen.{Seen, bins_in, capped, below, running, top_in}

-- a bin that is picked, with the tick or the level that it is picked for
pub record Pick : Type 0 where
  pub place : ℕ
  pub tick : Option Ratio
  pub level : Option ℕ

-- what a picker returns with the bin that it picks (`PickMetadata`)
pub record Metadata : Type 0 where
  pub tick : Option Ratio
  pub level : Option ℕ

-- the quantile of a bin: the fraction of all samples that lie in bins up to it
abbrev pub share_at : Seen → ℕ → Ratio
share_at h i = record { num = running h i; den = h.total }

-- the item of a pick, where the bins before `from` were counted by the items before
abbrev pub item_of : Seen → ℕ → Pick → Item
item_of h from p = record {
  value = unwrap_or p.level (top_in h p.place);
  quantile = share_at h p.place;
  tick = unwrap_or p.tick (share_at h p.place);
  count = slice_index h.numbers p.place;
  since = capped (below h (p.place + 1) - below h from);
}

abbrev pub items_from : Seen → ℕ → List Pick → List Item
items_from h from [] = []
items_from h from (p ∷ ps) = item_of h from p ∷ items_from h (p.place + 1) ps

-- the items of the picks, in their order
abbrev pub items_of : Seen → List Pick → List Item
items_of h ps = items_from h 0 ps

-- the bins of picks, in their order
abbrev pub places : List Pick → List ℕ
places [] = []
places (p ∷ ps) = p.place ∷ places ps

-- each number is above those before it, and the first is at least a
abbrev pub RiseFrom : ℕ → List ℕ → Type 0
RiseFrom a [] = Unit {0}
RiseFrom a (n ∷ ns) = (a ≤ n) × RiseFrom (n + 1) ns

-- no pick is of a bin before bin i
abbrev pub NoneBefore : ℕ → List Pick → Type 0
NoneBefore i [] = Unit {0}
NoneBefore i (p ∷ ps) = (i ≤ p.place) × NoneBefore i ps

-- all picks are of bins before bin n
abbrev pub AllBefore : ℕ → List Pick → Type 0
AllBefore n [] = Unit {0}
AllBefore n (p ∷ ps) = (p.place < n) × AllBefore n ps

-- each pick is of a bin that holds samples
abbrev pub AllFilled : Seen → List Pick → Type 0
AllFilled h [] = Unit {0}
AllFilled h (p ∷ ps) = (0 < slice_index h.numbers p.place) × AllFilled h ps

-- the bin after the one that was picked last
abbrev pub bin_after : Option ℕ → ℕ
bin_after None = 0
bin_after (Some i) = i + 1

-- a pick was made at the last bin that counts as recorded, or after it
abbrev pub IsAtEnd : Seen → Option ℕ → Type 0
IsAtEnd h last = h.last < bin_after last

-- what the picker gets at a bin is its number and the capped sum up to it, and no bin after it was picked
pub record IsCandidate (h : Seen) (last : Option ℕ) (index total count : ℕ) : Type 0 where
  pub in_order : bin_after last ≤ index + 1
  pub inside : index < bins_in h
  pub total_is : total ≡ running h index
  pub count_is : count ≡ slice_index h.numbers index

-- what a picker does at a bin: whatever bins it goes with, it either declines, and picks neither this bin nor another, or
-- picks the bin. `goes` and `picks` are before the call, and `goes'` and `picks'` after it
abbrev pub PicksAt : (Seen → Option ℕ → Type 0) → (Seen → List Pick) → (Seen → Option ℕ → Type 0) → (Seen → List Pick) → (index total count : ℕ) → Option Metadata → Type 0
PicksAt goes picks goes' picks' index total count picked =
    (h : Seen) (last : Option ℕ) → goes h last → IsCandidate h last index total count → NoneBefore index (picks h)
    → MatchOption picked (goes' h last × (picks' h ≡ picks h) × NoneBefore (index + 1) (picks h))
    (λ m. goes' h (Some index) × (picks h ≡ record { place = index; tick = m.tick; level = m.level } ∷ picks' h))

-- the item of a bin that was picked: `total` samples lie in bins up to it, `count` in it, and `since` in those after the last
abbrev pub item_at : Seen → ℕ → Metadata → ℕ → ℕ → ℕ → Item
item_at h index picked total count since =
    let share : Ratio = record { num = total; den = h.total } in
    record {
      value = unwrap_or picked.level (top_in h index);
      quantile = share;
      tick = unwrap_or picked.tick share;
      count = count;
      since = since;
    }

-- the state of an iterator: the picks to come, the current bin, and the capped sums up to it
pub record InStep (h : Seen) (picks : List Pick) (index total since count : ℕ) (last : Option ℕ) : Type 0 where
  pub ahead : NoneBefore index picks
  pub within : AllBefore (bins_in h) picks
  pub candidate : IsCandidate h last index total count
  pub since_is : since ≡ capped (below h (index + 1) - below h (bin_after last))
