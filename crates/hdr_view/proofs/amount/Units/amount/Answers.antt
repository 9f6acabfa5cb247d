use Rattle.hdr_view.proofs.Amounts.{begun, longer_unit}
use Rattle.hdr_view.proofs.amount.Units.amount.Goals as goal

pub loop-init : goal.loop-init
loop-init c = begun c.args.self.unit c.args.num c.args.den

pub loop-preserved : goal.loop-preserved
loop-preserved c =
    let a = c.loop.amount in
    let b = c.in-Some.longer in
    let e = c.in-Some.ensures in
    longer_unit c.args.self.unit a.unit b.unit c.args.num c.args.den a.num a.den b.num b.den c.loop.invariant e.unit.0 e.unit.1 e.same.0 e.same.1 e.at_least e.no_longer
