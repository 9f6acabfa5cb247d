-- Groups of intervals, and their cells.
use Rattle.std.proofs.Common.{◌≡◌, ℕ, zero, suc, ◌+◌, ◌-◌, ◌^◌, ◌<◌, ◌≤◌, Bool, true, false, ◌&&◌, if◌then◌else◌, ltb, List, [], ◌∷◌, ◌++◌, length, map, take, drop, get_or, min, Option, Some, None, IfSome, sum, refl, sym, ap, subst, ◌∙◌, arith, add-one, drop-cons, append_assoc, append-nil}
use Rattle.std.specs.List.{All, slice_get, slice_range}
use Rattle.std.proofs.lemmas.List.Elements.{All-append, All-cons, All-head, All-tail}
use Rattle.hdr_logs.specs.declared.stored.StoredInterval.{StoredInterval}
use Rattle.hdr_verdict.specs.declared.cell.Cell.{Cell}
use Rattle.hdr_verdict.specs.declared.cell.Group.{Group}
use Rattle.hdr_verdict.specs.Cells.{AreCounted, AreWithin, cell_of, cells_from, cells_of_group, cells_of_groups, cells_up_to, has_hole, hole_behind, span_of, time}
use Rattle.hdr_verdict.specs.Groups.{AreGroupsOf, IsGroupOf, group_of, groups_from, is_empty_at, with_empty, with_interval}

pub drop-one : {X : Type 0} (xs : List X) (i : ℕ) (d : X) → i < length xs → drop i xs ≡ get_or xs i d ∷ drop (i + 1) xs
drop-one xs i d inside = drop-cons xs i d inside ∙ ap (λ k. get_or xs i d ∷ drop k xs) (sym (add-one i))

either : (test : Bool) (n : ℕ) (one other : List Group) → AreGroupsOf n one → AreGroupsOf n other → AreGroupsOf n (if test then one else other)
either true n one other a b = a
either false n one other a b = b

-- the intervals of groups are among those that were grouped
pub groups-in : (counts : List ℕ) (last : Option Group) (i n : ℕ) (all : List StoredInterval) → IfSome last (IsGroupOf i) → i + length all ≤ n → AreGroupsOf n (groups_from counts last i all)
groups-in counts None i n [] before within = λ k d inside. absurd (omega arith)
groups-in counts (Some group) i n [] before within = All-cons (IsGroupOf n) group [] (before.0, omega (arith, before.1)) (λ k d inside. absurd (omega arith))
groups-in counts None i n (interval ∷ all) before within = groups-in counts (Some (group_of interval i)) (i + 1) n all (omega arith, omega arith) (omega arith)
groups-in counts (Some group) i n (interval ∷ all) before within =
    let first : group.first ≤ group.next = before.0 in
    let next : group.next ≤ i = before.1 in
    let more = λ (g : Group). groups_from counts (Some g) (i + 1) all in
    let rest = λ (g : Group) (a : g.first ≤ g.next) (b : g.next ≤ i + 1). groups-in counts (Some g) (i + 1) n all (a, b) (omega arith) in
    let apart = group ∷ more (group_of interval i) in
    let joined = if ltb interval.start group.end then more (with_interval group interval i) else apart in
    let begun = if is_empty_at counts group.first then more (group_of interval i) else joined in
    either (is_empty_at counts i) n (more (with_empty group i)) begun (rest (with_empty group i) (omega arith) (omega arith))
    (either (is_empty_at counts group.first) n (more (group_of interval i)) joined (rest (group_of interval i) (omega arith) (omega arith))
    (either (ltb interval.start group.end) n (more (with_interval group interval i)) apart (rest (with_interval group interval i) (omega arith) (omega arith))
    (All-cons (IsGroupOf n) group (more (group_of interval i)) (first, omega arith) (rest (group_of interval i) (omega arith) (omega arith)))))

slice-drop : {X : Type 0} (xs : List X) (k : ℕ) → slice_get (drop k xs) 0 ≡ slice_get xs k
slice-drop [] zero = refl
slice-drop [] (suc k) = refl
slice-drop (x ∷ xs) zero = refl
slice-drop (x ∷ xs) (suc k) = slice-drop xs k

first-cells : (counts : List ℕ) (stride end : ℕ) (group : Group) (all : List Group) → cells_from counts stride end group all ≡ cells_up_to counts stride end group (slice_get all 0) ++ cells_of_groups counts stride end all
first-cells counts stride end group [] = sym (append-nil (cells_up_to counts stride end group None))
first-cells counts stride end group (next ∷ all) = refl

-- the cells of one more group
pub cells-next : (counts : List ℕ) (stride end : ℕ) (groups : List Group) (i : ℕ) (d : Group) → i < length groups
    → cells_of_groups counts stride end (drop i groups) ≡ cells_up_to counts stride end (get_or groups i d) (slice_get groups (i + 1)) ++ cells_of_groups counts stride end (drop (i + 1) groups)
cells-next counts stride end groups i d inside =
    let group = get_or groups i d in
    let rest = drop (i + 1) groups in
    ap (cells_of_groups counts stride end) (drop-one groups i d inside) ∙ first-cells counts stride end group rest ∙ ap (λ n. cells_up_to counts stride end group n ++ cells_of_groups counts stride end rest) (slice-drop groups (i + 1))

-- a cell's intervals are of n, and it has as many samples as they have
abbrev pub IsSound : List ℕ → ℕ → Cell → Type 0
IsSound counts n cell = (cell.first ≤ cell.next) × (cell.next ≤ n) × (cell.samples ≡ min (sum (slice_range counts cell.first cell.next)) (2 ^ 64 - 1))

sound-hole : (counts : List ℕ) (n : ℕ) (group : Group) (start end : ℕ) → IsGroupOf n group → IsSound counts n (hole_behind group start end)
sound-hole counts n group start end is =
    let none : sum (slice_range counts group.next group.next) ≡ 0 = ap (λ k. sum (take k (drop group.next counts))) (let e : group.next - group.next ≡ 0 = omega arith in e) in
    (omega arith, is.1, omega (arith, none))

sound-both : (test : Bool) (counts : List ℕ) (n : ℕ) (cell hole : Cell) → IsSound counts n cell → IsSound counts n hole → All (IsSound counts n) (if test then cell ∷ hole ∷ [] else cell ∷ [])
sound-both true counts n cell hole one two = All-cons (IsSound counts n) cell (hole ∷ []) one (All-cons (IsSound counts n) hole [] two (λ k d inside. absurd (omega arith)))
sound-both false counts n cell hole one two = All-cons (IsSound counts n) cell [] one (λ k d inside. absurd (omega arith))

sound-group : (counts : List ℕ) (n stride : ℕ) (group : Group) (after : ℕ) (is_last : Bool) → IsGroupOf n group → All (IsSound counts n) (cells_of_group counts stride group after is_last)
sound-group counts n stride group after is_last is =
    let until = after - group.start in
    let end = time (group.start + span_of group until stride is_last) in
    sound-both (has_hole group until stride && ltb end after) counts n (cell_of counts group end) (hole_behind group end after) (is.0, is.1, refl) (sound-hole counts n group end after is)

sound-from : (counts : List ℕ) (n stride end : ℕ) (group : Group) (all : List Group) → AreGroupsOf n (group ∷ all) → All (IsSound counts n) (cells_from counts stride end group all)
sound-from counts n stride end group [] are = sound-group counts n stride group end true (All-head (IsGroupOf n) group [] are)
sound-from counts n stride end group (next ∷ all) are =
    All-append (IsSound counts n) (cells_of_group counts stride group next.start false) (cells_from counts stride end next all) (sound-group counts n stride group next.start false (All-head (IsGroupOf n) group (next ∷ all) are)) (sound-from counts n stride end next all (All-tail (IsGroupOf n) group (next ∷ all) are))

pub sound-cells : (counts : List ℕ) (n stride end : ℕ) (groups : List Group) → AreGroupsOf n groups → All (IsSound counts n) (cells_of_groups counts stride end groups)
sound-cells counts n stride end [] are = λ k d inside. absurd (omega arith)
sound-cells counts n stride end (group ∷ all) are = sound-from counts n stride end group all are

pub sound-within : (counts : List ℕ) (n : ℕ) (cells : List Cell) → All (IsSound counts n) cells → AreWithin n cells
sound-within counts n cells sound = λ k d inside. (let one = sound k d inside in (one.0, one.1))

pub sound-counted : (counts : List ℕ) (n : ℕ) (cells : List Cell) → All (IsSound counts n) cells → AreCounted counts cells
sound-counted counts n cells sound = λ k d inside. (let one = sound k d inside in one.2)
