-- The tags of intervals.
use Rattle.std.specs.Prelude.{◌≡◌, ℕ, ◌+◌, ◌-◌, ◌^◌, List, [], ◌∷◌, ◌++◌, Bool, true, if◌then◌else◌, length, map, min, max}
use Rattle.std.specs.List.{All, fold, sum_by}
use Rattle.std.specs.List.Sorted.{IsPermutation, IsSorted}
use Rattle.std.specs.Cmp.Lexicographic.{slice_cmp}
use Rattle.std.specs.Ordering.{nat_cmp, ordering_then, is_eq}
use Rattle.std.specs.declared.cmp.Ordering.{Ordering}
use Rattle.hdr_logs.specs.Stored.{end_of, view_of_stored}
use Rattle.hdr_logs.specs.declared.stored.StoredInterval.{StoredInterval}
use Rattle.hdr_verdict.specs.Bars.{bar_of_cells}
use Rattle.hdr_verdict.specs.Cells.{cells_of_intervals}
use Rattle.hdr_verdict.specs.Samples.{Held, AreHeld, CanCount, samples_of_cells, width_of}
use Rattle.hdr_verdict.specs.TagSamples.{HasSamples, cells_of, intervals_of_tag}
use Rattle.hdr_verdict.specs.declared.samples.TagSamples.{TagSamples}
use Rattle.hdr_verdict.specs.declared.tags.Tag.{Tag}

-- the name of an interval's tag, which is empty if there is none
abbrev pub name_of : StoredInterval → List ℕ
name_of interval = (view_of_stored interval).tag

-- the order of names
abbrev pub name_cmp : List ℕ → List ℕ → Ordering
name_cmp = slice_cmp nat_cmp

-- the order of intervals: by name, start and end
abbrev pub interval_cmp : StoredInterval → StoredInterval → Ordering
interval_cmp i j = ordering_then (name_cmp (name_of i) (name_of j)) (ordering_then (nat_cmp i.start j.start) (nat_cmp (end_of i) (end_of j)))

-- the name of the first of intervals
abbrev pub first_name : List StoredInterval → List ℕ
first_name [] = []
first_name (i ∷ is) = name_of i

-- an interval is of the tag of some others, if there are any
abbrev pub is_of : List StoredInterval → StoredInterval → Bool
is_of [] i = true
is_of (first ∷ others) i = is_eq (name_cmp (name_of first) (name_of i))

-- when the last of intervals ends
abbrev pub last_end : List StoredInterval → ℕ
last_end intervals = fold (λ end i. max end (end_of i)) 0 intervals

-- the cells of a tag are those of its intervals up to the end of a log, and have their samples
pub record HasCells (end : ℕ) (s : TagSamples) : Type 0 where
  pub cells : (all : List Held) → AreHeld (intervals_of_tag s) all
      → cells_of s ≡ cells_of_intervals (intervals_of_tag s) (map (λ held. length held.samples) all) end
  pub samples : (all : List Held) → AreHeld (intervals_of_tag s) all
      → CanCount (samples_of_cells all (width_of all) (cells_of s)) → HasSamples s (samples_of_cells all (width_of all) (cells_of s))

-- intervals of one name, if there are any
abbrev pub part_of : List StoredInterval → List (List StoredInterval)
part_of [] = []
part_of (i ∷ is) = (i ∷ is) ∷ []

-- intervals that follow some of one name, cut where the name changes
abbrev pub parts_from : List StoredInterval → List StoredInterval → List (List StoredInterval)
parts_from part [] = part_of part
parts_from part (i ∷ is) = if is_of part i then parts_from (part ++ i ∷ []) is else part ∷ parts_from (i ∷ []) is

abbrev pub part_of_tag : Tag → List StoredInterval
part_of_tag tag = intervals_of_tag tag.samples

-- a tag has the name of its intervals, and their cells up to the end of a log
pub record IsTag (end : ℕ) (tag : Tag) : Type 0 where
  pub name : tag.name.now ≡ first_name (intervals_of_tag tag.samples)
  pub cells : HasCells end tag.samples

-- the tags of intervals: these in order of name, start and end, cut where the name changes
pub record AreTagsOf (intervals : List StoredInterval) (tags : List Tag) : Type 0 where
  pub sorted : List StoredInterval
  pub permutation : IsPermutation intervals sorted
  pub order : IsSorted interval_cmp sorted
  pub parts : map part_of_tag tags ≡ parts_from [] sorted
  pub each : All (IsTag (last_end intervals)) tags

-- the number of samples of a tag, as far as 64 bits hold it
abbrev pub total_of : Tag → ℕ
total_of tag = min (sum_by (λ cell. cell.samples) (cells_of tag.samples)) (2 ^ 64 - 1)

-- the number of samples that open a run, by the number of cells of tags
abbrev pub bar_of : List Tag → ℕ
bar_of tags = bar_of_cells (min (sum_by (λ tag. length (cells_of tag.samples)) tags) (2 ^ 64 - 1))

-- the order of tags: those with the most samples first, and of as many by name
abbrev pub tag_cmp : Tag → Tag → Ordering
tag_cmp s t = ordering_then (nat_cmp (total_of t) (total_of s)) (name_cmp s.name.now t.name.now)
