use Rattle.std.proofs.Common.{◌≡◌, ◌+◌, ◌-◌, length, map, ap, arith}
use Rattle.hdr_counts.proofs.BlocksSums.{part_whole, sum_below-le-sum, sum_below_all}
use Rattle.hdr_counts.proofs.BlocksPlaces.{first-in-part}
use Rattle.hdr_counts.specs.Blocks.{sum_below}
use Rattle.std.proofs.lemmas.List.{length-map}
use Rattle.hdr_counts.proofs.search.by_lanes.Goals as goal

pub short_sum-sum-requires : goal.short_sum-sum-requires
short_sum-sum-requires g c =
    let n = g.T.Counter.number in
    let xs = c.args.counters.now in
    let a = c.loop-from.from in
    let w = a + 64 - a in
    omega (arith, part_whole n xs a w, sum_below-le-sum (map n xs) (a + w), c.requires.fits)

pub loop-from-preserved : goal.loop-from-preserved
loop-from-preserved g c =
    let n = g.T.Counter.number in
    let xs = c.args.counters.now in
    let a = c.loop-from.from in
    let w = a + 64 - a in
    let end : a + w ≡ a + 64 = omega arith in
    let upto = ap (λ j. sum_below (map n xs) j) end in
    (omega (arith, part_whole n xs a w, upto, c.loop-from.invariant.0, c.short_sum-sum.ensures), omega arith, omega arith)

pub returns-in_err-place : goal.returns-in_err-place
returns-in_err-place g c =
    let n = g.T.Counter.number in
    let xs = c.args.counters.now in
    let a = c.loop-from.from in
    let w = length xs - a in
    rw c.from_residual.ensures (omega (arith, c.in_err-place.ensures, part_whole n xs a w, sum_below_all (map n xs) (a + w) (omega (arith, length-map xs n)), c.loop-from.invariant.0))

pub returns : goal.returns
returns g c =
    let a = c.loop-from.from in
    first-in-part g.T.Counter.number c.args.counters.now a (length c.args.counters.now - a) c.in_ok-place.place c.args.rest c.loop-from.rest c.loop-from.invariant.0 c.in_ok-place.ensures
