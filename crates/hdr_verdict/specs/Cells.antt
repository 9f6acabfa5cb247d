-- Cells of a tag's time.
use Rattle.std.specs.Prelude.{◌≡◌, ℕ, ◌+◌, ◌-◌, ◌*◌, ◌^◌, ◌≤◌, Bool, true, false, ◌&&◌, ◌||◌, nat_le, nat_lt, if◌then◌else◌, min, max, List, [], ◌∷◌, ◌++◌, Option, None, Some, sum}
use Rattle.std.specs.List.{All, slice_range}
use Rattle.hdr_logs.specs.declared.stored.StoredInterval.{StoredInterval}
use Rattle.hdr_verdict.specs.Groups.{groups_from, stride_of}
use Rattle.hdr_verdict.specs.declared.cell.Cell.{Cell}
use Rattle.hdr_verdict.specs.declared.cell.Group.{Group}

-- the length of a group's intervals
abbrev pub length_of : Group → ℕ
length_of group = group.last - group.start

-- a time without intervals follows a group: what comes next is more than 3/2 of the usual stride, and of its length, after its start
abbrev pub has_hole : Group → (until stride : ℕ) → Bool
has_hole group until stride = nat_lt (3 * max stride (length_of group)) (2 * until)

-- the length of a group's cell, if a time without intervals follows it: that of its intervals, or the usual stride if that is longer
-- and the group is not the last one
abbrev pub span_before_hole : Group → (until stride : ℕ) → (is_last : Bool) → ℕ
span_before_hole group until stride is_last = if is_last || nat_le stride (length_of group) then min (length_of group) until else stride

-- the length of a group's cell otherwise: up to the next group
abbrev pub span_up_to : Group → (until stride : ℕ) → (is_last : Bool) → ℕ
span_up_to group until stride is_last = if is_last then min (max (length_of group) stride) (max until 1) else until

abbrev pub span_of : Group → (until stride : ℕ) → (is_last : Bool) → ℕ
span_of group until stride is_last = max 1 (if has_hole group until stride then span_before_hole group until stride is_last else span_up_to group until stride is_last)

-- a time, as far as 64 bits hold it
abbrev pub time : ℕ → ℕ
time t = min t (2 ^ 64 - 1)

-- the cell of a group, up to an end; the intervals have these numbers of samples
abbrev pub cell_of : List ℕ → Group → (end : ℕ) → Cell
cell_of counts group end = record {
  start = group.start;
  end = end;
  last = min (max group.last (time (group.start + 1))) end;
  samples = min (sum (slice_range counts group.first group.next)) (2 ^ 64 - 1);
  first = group.first;
  next = group.next;
}

-- a cell without intervals, behind those of a group
abbrev pub hole_behind : Group → (start end : ℕ) → Cell
hole_behind group start end = record { start = start; end = end; last = end; samples = 0; first = group.next; next = group.next }

-- the cell of a group, and that of the time without intervals behind it; `after` is when the next group begins, or the log ends
abbrev pub cells_of_group : List ℕ → (stride : ℕ) → Group → (after : ℕ) → (is_last : Bool) → List Cell
cells_of_group counts stride group after is_last =
    let until = after - group.start in
    let end = time (group.start + span_of group until stride is_last) in
    if has_hole group until stride && nat_lt end after then cell_of counts group end ∷ hole_behind group end after ∷ []
    else cell_of counts group end ∷ []

-- the cells of a group up to the next one, or to the end of the log
abbrev pub cells_up_to : List ℕ → (stride end : ℕ) → Group → Option Group → List Cell
cells_up_to counts stride end group None = cells_of_group counts stride group end true
cells_up_to counts stride end group (Some next) = cells_of_group counts stride group next.start false

-- the cells of groups
abbrev pub cells_from : List ℕ → (stride end : ℕ) → Group → List Group → List Cell
cells_from counts stride end group [] = cells_up_to counts stride end group None
cells_from counts stride end group (next ∷ all) = cells_up_to counts stride end group (Some next) ++ cells_from counts stride end next all

abbrev pub cells_of_groups : List ℕ → (stride end : ℕ) → List Group → List Cell
cells_of_groups counts stride end [] = []
cells_of_groups counts stride end (group ∷ all) = cells_from counts stride end group all

-- the cells of intervals, which are in ascending order of their starts and have these numbers of samples, up to the end of a log
unfoldable pub cells_of_intervals : List StoredInterval → List ℕ → (end : ℕ) → List Cell
cells_of_intervals intervals counts end =
    let groups = groups_from counts None 0 intervals in
    cells_of_groups counts (stride_of groups) end groups

-- the intervals of each cell are of n
abbrev pub AreWithin : ℕ → List Cell → Type 0
AreWithin n cells = All (λ cell. (cell.first ≤ cell.next) × (cell.next ≤ n)) cells

-- each cell has as many samples as its intervals, as far as 64 bits hold them
abbrev pub AreCounted : List ℕ → List Cell → Type 0
AreCounted counts cells = All (λ cell. cell.samples ≡ min (sum (slice_range counts cell.first cell.next)) (2 ^ 64 - 1)) cells
