use Rattle.hdr_draw.specs.Rows.{Ends}
use Rattle.hdr_draw.proofs.Bounds.{row_from_bounds}
use Rattle.hdr_draw.proofs.rows.Rows.row.Goals as goal

pub returns : goal.returns
returns c =
    let e : Ends = record { low = c.self.inside.low; high = c.self.inside.high } in
    let v = c.deref.ensures.value in
    let n = rw (← v) at c.self.invariant.0 in
    let b = rw (← v) at c.self.invariant.1 in
    let m = c.bounds_at_most.ensures in
    rw (← c.self.view_is) (row_from_bounds e c.deref.result.now c.args.value c.bounds_at_most.result n b m.inside m.below m.above)
