-- Groups of a tag's intervals, which overlap.
use Rattle.std.specs.Prelude.{ℕ, Bool, ◌+◌, ◌-◌, ◌*◌, ◌/◌, ◌≤◌, ◌==◌, nat_le, nat_lt, if◌then◌else◌, max, List, [], ◌∷◌, length, Option, Some, None, slice_index}
use Rattle.std.specs.List.{All}
use Rattle.hdr_model.specs.Quantiles.{sorted}
use Rattle.hdr_logs.specs.Stored.{end_of}
use Rattle.hdr_logs.specs.declared.stored.StoredInterval.{StoredInterval}
use Rattle.hdr_verdict.specs.declared.cell.Group.{Group}

-- the group of the interval of an index
abbrev pub group_of : StoredInterval → ℕ → Group
group_of interval i = record { start = interval.start; end = end_of interval; last = end_of interval; first = i; next = i + 1 }

-- an interval is at least twice as long as a group up to its end
abbrev pub is_long_for : Group → StoredInterval → Bool
is_long_for group interval = nat_le (2 * (group.end - group.start)) (end_of interval - interval.start)

-- a group with the interval behind its last one, up to the end of that if it is long
abbrev pub with_interval : Group → StoredInterval → ℕ → Group
with_interval group interval i = record group {
  end = if is_long_for group interval then end_of interval else group.end;
  last = max group.last (end_of interval);
  next = i + 1;
}

-- a group with an interval without samples behind its last one
abbrev pub with_empty : Group → ℕ → Group
with_empty group i = record group { next = i + 1 }

-- the interval of an index has no samples
abbrev pub is_empty_at : List ℕ → ℕ → Bool
is_empty_at counts i = slice_index counts i == 0

-- the last group, if there is one, and the groups of the intervals from index i on, which have these numbers of samples: an interval is
-- of the last group if it begins before the end of that, which is that of its first interval, or of a long one. An interval without
-- samples is as if it were not there: it is of the last group, and changes nothing of its time. A group of such intervals alone is
-- replaced by that of the first interval with samples
abbrev pub groups_from : List ℕ → Option Group → ℕ → List StoredInterval → List Group
groups_from counts None i [] = []
groups_from counts (Some group) i [] = group ∷ []
groups_from counts None i (interval ∷ all) = groups_from counts (Some (group_of interval i)) (i + 1) all
groups_from counts (Some group) i (interval ∷ all) =
    if is_empty_at counts i then groups_from counts (Some (with_empty group i)) (i + 1) all
    else (if is_empty_at counts group.first then groups_from counts (Some (group_of interval i)) (i + 1) all
    else (if nat_lt interval.start group.end then groups_from counts (Some (with_interval group interval i)) (i + 1) all
    else group ∷ groups_from counts (Some (group_of interval i)) (i + 1) all))

-- the strides from a start to those of groups, one after the other
abbrev pub strides_from : ℕ → List Group → List ℕ
strides_from start [] = []
strides_from start (group ∷ all) = (group.start - start) ∷ strides_from group.start all

-- the element at nine tenths of the length, in ascending order; the other number if there is none
abbrev pub ninth_decile : (other : ℕ) → List ℕ → ℕ
ninth_decile other [] = other
ninth_decile other (x ∷ xs) = slice_index (sorted (x ∷ xs)) (length (x ∷ xs) * 9 / 10)

-- the usual stride: nine of ten are no longer. Of one group it is its length up to its end, but at least 1
abbrev pub stride_of : List Group → ℕ
stride_of [] = 1
stride_of (group ∷ all) = ninth_decile (max 1 (group.end - group.start)) (strides_from group.start all)

-- the intervals of a group are of n
abbrev pub IsGroupOf : ℕ → Group → Type 0
IsGroupOf n group = (group.first ≤ group.next) × (group.next ≤ n)

abbrev pub AreGroupsOf : ℕ → List Group → Type 0
AreGroupsOf n groups = All (IsGroupOf n) groups
