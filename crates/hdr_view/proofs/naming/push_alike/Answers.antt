use Rattle.std.proofs.Common.{◌≡◌, ◌+◌, Bor, ap, arith, map, take, take_all}
use Rattle.hdr_view.specs.declared.naming.Short.{Short}
use Rattle.hdr_view.specs.Naming.{times, times_in}
use Rattle.hdr_view.proofs.naming.push_alike.Goals as goal

pub returns-clause-times : goal.returns-clause-times
returns-clause-times c = λ index.
    let index_of = λ (s : Bor Short). s.now.index in
    let alike = c.args.alike.now in
    let whole : times index (map index_of (take c.loop-position.position alike)) ≡ times index (map index_of alike) =
    ap (λ l. times index (map index_of l)) (take_all c.loop-position.position alike c.loop-position-test.false) in
    omega (arith, c.in_ok-push_line.ensures.times index, c.loop-position.invariant index)
