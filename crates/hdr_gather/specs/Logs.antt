-- Gathered logs: which lines they have, and in which order.
use Rattle.std.specs.Prelude.{◌≡◌, ℕ, ◌+◌, List, [], ◌∷◌, ◌++◌, length, Option, option_to_list, unwrap_or}
use Rattle.std.specs.Option.{option_map}
use Rattle.std.specs.List.{All, AllPairs, flat_map}
use Rattle.std.specs.List.Sorted.{IsPermutation}
use Rattle.std.specs.Io.KnownBytes.{Appends}
use Rattle.hdrhistogram.specs.LogStarts.{new_start, IsStartText}
use Rattle.hdr_input.specs.declared.unit.Unit.{Unit}
use Rattle.hdr_logs.specs.Headers.{decimals_comment, unit_comment}
use Rattle.hdr_logs.specs.Stored.{Stored, HaveSameDecimals, HaveSameUnit, decimals_of, intervals_of}
use Rattle.hdr_logs.specs.declared.intervals.LogIntervals.{LogIntervals}
use Rattle.hdr_logs.specs.declared.stored.StoredInterval.{StoredInterval}
use Rattle.hdr_gather.specs.Keys.{key_of, IsBefore}
use Rattle.hdr_gather.specs.Counts.{AreCounts}
use Rattle.hdr_gather.specs.Lines.{IsLineOf}
use Rattle.hdr_gather.specs.declared.sum.Counts.{Counts}

-- each group is before all that follow it: in order of time, and at one time of tag, and no two have the same time and tag
abbrev pub AreInOrder : List (Stored × List Stored) → Type 0
AreInOrder groups = AllPairs (λ one other. IsBefore one.0 other.0) groups

-- a line for each group of intervals, which are one and others of its time and tag that it is merged with; some of them are finer than their sum
unfoldable pub AreLinesOf : List (Stored × List Stored) → ℕ → List ℕ → Type 0
AreLinesOf [] finer text = (finer ≡ 0) × (text ≡ [])
AreLinesOf (group ∷ groups) finer text =
    (line : List ℕ) × (rest : List ℕ) × (here : ℕ) × (after : ℕ) × (text ≡ line ++ rest) × (finer ≡ here + after)
    × All (λ i. key_of i ≡ key_of group.0) group.1 × IsLineOf group.0 group.1 here line × AreLinesOf groups after rest

-- the line of an interval and of others was written
abbrev pub WritesLine : Stored → List Stored → ℕ → Option (List ℕ) → Option (List ℕ) → Type 0
WritesLine first others finer old new = (text : List ℕ) × IsLineOf first others finer text × Appends old new text

-- intervals were written in their order, each of them in one line, and all of one time and tag in the same line; some of them are finer than their sum
abbrev pub Writes : List Stored → ℕ → Option (List ℕ) → Option (List ℕ) → Type 0
Writes all finer old new =
    (groups : List (Stored × List Stored)) × (text : List ℕ)
    × (flat_map (λ group. group.0 ∷ group.1) groups ≡ all) × AreInOrder groups × AreLinesOf groups finer text × Appends old new text

-- intervals were written in order of time and tag
abbrev pub WritesAll : List Stored → ℕ → Option (List ℕ) → Option (List ℕ) → Type 0
WritesAll all finer old new = (sorted : List Stored) × IsPermutation all sorted × Writes sorted finer old new

-- the comments that have the decimals and the unit of a log's values, where it has them
abbrev pub scale_comments : Option ℕ → Option Unit → List (List ℕ)
scale_comments decimals unit = option_to_list (option_map decimals_comment decimals) ++ option_to_list (option_map unit_comment unit)

-- the start of a log was written: these comments
abbrev pub WritesStart : Option ℕ → Option Unit → Option (List ℕ) → Option (List ℕ) → Type 0
WritesStart decimals unit old new =
    (header : List ℕ) × IsStartText (record new_start { comments = scale_comments decimals unit }) header × Appends old new header

-- these comments were written, and then the lines of these intervals, in order of time and tag; the intervals are counted, and those that are finer
-- than their sum
abbrev pub WritesLog : Option ℕ → Option Unit → List Stored → Counts → Option (List ℕ) → Option (List ℕ) → Type 0
WritesLog decimals unit all counts old new =
    (between : Option (List ℕ)) × (finer : ℕ) × WritesStart decimals unit old between × WritesAll all finer between new
    × AreCounts counts (length all) finer

-- the values of intervals have these decimals, 0 if no comment has them, and this unit
abbrev pub AreIn : Option ℕ → Option Unit → List StoredInterval → Type 0
AreIn decimals unit all = All (λ s. (decimals_of s ≡ unwrap_or decimals 0) × (s.unit ≡ unit)) all

-- the log was written with the decimals and the unit of the intervals, if they have the same
abbrev pub WritesConverted : LogIntervals → Counts → Option (List ℕ) → Option (List ℕ) → Type 0
WritesConverted intervals counts old new =
    (decimals : Option ℕ) × (unit : Option Unit) × WritesLog decimals unit (intervals_of intervals) counts old new
    × (HaveSameDecimals intervals → HaveSameUnit intervals → AreIn decimals unit intervals.list.items)
