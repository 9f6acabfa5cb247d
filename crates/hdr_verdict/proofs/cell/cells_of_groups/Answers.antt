use Rattle.std.proofs.Common.{◌≡◌, ◌∙◌, ◌+◌, ◌++◌, length, drop, get_or, ap, sym, append_assoc}
use Rattle.std.specs.List.{slice_get}
use Rattle.hdr_verdict.specs.declared.cell.Group.{Group}
use Rattle.hdr_verdict.specs.Cells.{cells_of_groups, cells_up_to}
use Rattle.hdr_verdict.proofs.GroupFacts.{cells-next}
use Rattle.hdr_verdict.proofs.cell.cells_of_groups.Goals as goal

pub loop-index-preserved : goal.loop-index-preserved
loop-index-preserved c =
    let groups = c.args.groups.now in
    let i = c.loop-index.index in
    let d : Group = record { start = 0; end = 0; last = 0; first = 0; next = 0 } in
    let group = get_or groups i d in
    let f = cells_of_groups c.args.counts.now c.args.stride c.args.end in
    let own = cells_up_to c.args.counts.now c.args.stride c.args.end group in
    ap (λ l. l ++ f (drop (i + 1) groups)) (c.in_ok-push_up_to.ensures ∙ ap (λ n. c.loop-index.cells.items ++ own n) c.next_of.ensures)
    ∙ append_assoc c.loop-index.cells.items (own (slice_get groups (i + 1))) (f (drop (i + 1) groups))
    ∙ ap (λ l. c.loop-index.cells.items ++ l) (sym (cells-next c.args.counts.now c.args.stride c.args.end groups i d c.loop-index-test.true))
    ∙ c.loop-index.invariant
