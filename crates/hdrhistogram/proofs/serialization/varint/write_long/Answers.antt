use Rattle.std.proofs.Common.{arith}
use Rattle.hdrhistogram.proofs.VarintSpellings.{spelling, spelling_least}
use Rattle.hdrhistogram.proofs.VarintWriting.{written_start, written_room, written_end, written_next, written_last}
use Rattle.hdrhistogram.proofs.serialization.varint.write_long.Goals as goal

pub loop-place-init : goal.loop-place-init
loop-place-init c = written_start _ _

pub bounds-buf-place : goal.bounds-buf-place
bounds-buf-place c = written_room _ _ _ _ _ c.loop-place.invariant (c.requires (spelling c.args.n) (spelling_least c.args.n (omega arith))) c.loop-place.auto.buf (omega arith)

pub returns-then-rest-lt-LAST_BELOW-clause-written : goal.returns-then-rest-lt-LAST_BELOW-clause-written
returns-then-rest-lt-LAST_BELOW-clause-written c =
    let both = written_end _ _ _ _ _ c.loop-place.invariant (omega arith) c.if-rest-lt-LAST_BELOW.true (bounds-buf-place c) in
    (spelling c.args.n, spelling_least c.args.n (omega arith), both.1, both.0)

pub bounds-buf-place-in-loop-place : goal.bounds-buf-place-in-loop-place
bounds-buf-place-in-loop-place c = written_room _ _ _ _ _ c.loop-place.invariant (c.requires (spelling c.args.n) (spelling_least c.args.n (omega arith))) c.loop-place.auto.buf (omega arith)

pub loop-place-preserved : goal.loop-place-preserved
loop-place-preserved c = written_next _ _ _ _ _ c.loop-place.invariant (omega arith) c.if-rest-lt-LAST_BELOW.false (written_room _ _ _ _ _ c.loop-place.invariant (c.requires (spelling c.args.n) (spelling_least c.args.n (omega arith))) c.loop-place.auto.buf (omega arith))

pub bounds-buf-8 : goal.bounds-buf-8
bounds-buf-8 c = omega (arith, written_room _ _ _ _ _ c.loop-place.invariant (c.requires (spelling c.args.n) (spelling_least c.args.n (omega arith))) c.loop-place.auto.buf (omega arith))

pub returns-clause-written : goal.returns-clause-written
returns-clause-written c =
    let both = written_last _ _ _ _ _ c.loop-place.invariant (omega arith) (bounds-buf-8 c) in
    (spelling c.args.n, spelling_least c.args.n (omega arith), both.1, both.0)
