use Rattle.std.proofs.Common.{◌≡◌, ◌∙◌, ◌+◌, ◌≤◌, ℕ, None, List, length, map, ap, sym, subst, refl, arith, Bor}
use Rattle.std.specs.List.{All}
use Rattle.std.proofs.lemmas.List.{length-map}
use Rattle.hdr_logs.specs.declared.stored.StoredInterval.{StoredInterval}
use Rattle.hdr_verdict.specs.declared.cell.Group.{Group}
use Rattle.hdr_verdict.specs.declared.cell.Cell.{Cell}
use Rattle.hdr_verdict.specs.Cells.{AreCounted, AreWithin, cells_of_groups, cells_of_intervals}
use Rattle.hdr_verdict.specs.Groups.{AreGroupsOf, groups_from, stride_of}
use Rattle.hdr_verdict.proofs.GroupFacts.{groups-in, sound-cells, sound-counted, sound-within, IsSound}
use Rattle.hdr_verdict.proofs.cell.cells_of.Goals as goal

grouped : (counts : List ℕ) (refs : List (Bor StoredInterval)) (n : ℕ) (groups : List Group) → groups ≡ groups_from counts None 0 (map (λ (r : Bor StoredInterval). r.now) refs) → n ≡ length refs → AreGroupsOf n groups
grouped counts refs n groups are many =
    let now : Bor StoredInterval → StoredInterval = λ r. r.now in
    subst (AreGroupsOf n) (sym are) (groups-in counts None 0 n (map now refs) tt (omega (arith, many, length-map refs now)))

pub cells_of_groups-requires : goal.cells_of_groups-requires
cells_of_groups-requires c = grouped c.args.counts.now c.args.intervals.now (length c.args.counts.now) c.deref-2.result.now (c.deref-2.ensures.value ∙ c.in_ok-groups.ensures) c.requires

pub returns-clause-cells : goal.returns-clause-cells
unfolding cells_of_intervals
returns-clause-cells c =
    let counts = c.args.counts.now in
    let groups = groups_from counts None 0 (map (λ (r : Bor StoredInterval). r.now) c.args.intervals.now) in
    let are = c.deref-2.ensures.value ∙ c.in_ok-groups.ensures in
    let stride = c.in_ok-stride.ensures ∙ ap stride_of (c.deref.ensures.value ∙ c.in_ok-groups.ensures) in
    c.in_ok-cells.ensures ∙ ap (λ s. cells_of_groups counts s c.args.end c.deref-2.result.now) stride ∙ ap (cells_of_groups counts (stride_of groups) c.args.end) are

pub returns-clause-within : goal.returns-clause-within
returns-clause-within c =
    let counts = c.args.counts.now in
    let n = length c.args.intervals.now in
    let groups = c.deref-2.result.now in
    let sound = sound-cells counts n c.in_ok-stride.stride c.args.end groups (grouped counts c.args.intervals.now n groups (c.deref-2.ensures.value ∙ c.in_ok-groups.ensures) refl) in
    sound-within counts n c.in_ok-cells.cells.items (subst (All (IsSound counts n)) (sym c.in_ok-cells.ensures) sound)

pub returns-clause-counted : goal.returns-clause-counted
returns-clause-counted c =
    let counts = c.args.counts.now in
    let n = length c.args.intervals.now in
    let groups = c.deref-2.result.now in
    let sound = sound-cells counts n c.in_ok-stride.stride c.args.end groups (grouped counts c.args.intervals.now n groups (c.deref-2.ensures.value ∙ c.in_ok-groups.ensures) refl) in
    sound-counted counts n c.in_ok-cells.cells.items (subst (All (IsSound counts n)) (sym c.in_ok-cells.ensures) sound)
