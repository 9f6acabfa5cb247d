use Rattle.std.proofs.Common.{arith, refl, ap, ◌∙◌, ◌++◌, ◌<◌, ◌≤◌, drop, length}
use Rattle.hdrhistogram.proofs.VarintSpellings.{spelling, spelling_least, spelling_room, shortest_room}
use Rattle.hdrhistogram.proofs.VarintWriting.{written_start, written_room, written_end, two_bytes, two_long}
use Rattle.hdrhistogram.proofs.serialization.varint.varint_write.Goals as goal

pub bounds-buf-0 : goal.bounds-buf-0
bounds-buf-0 c = written_room _ _ _ _ _ (written_start c.args.buf.now c.args.n) (spelling_room c.args.n (length c.args.buf.now) (omega arith) c.requires) refl (omega arith)

pub returns-then-n-lt-LAST_BELOW-clause-written : goal.returns-then-n-lt-LAST_BELOW-clause-written
returns-then-n-lt-LAST_BELOW-clause-written c =
    let both = written_end _ _ _ _ _ (written_start c.args.buf.now c.args.n) (omega arith) c.if-n-lt-LAST_BELOW.true (bounds-buf-0 c) in
    (spelling c.args.n, spelling_least c.args.n (omega arith), both.1, both.0)

pub write_u16-requires : goal.write_u16-requires
write_u16-requires c = omega (arith, spelling_room c.args.n (length c.args.buf.now) (omega arith) c.requires, two_long c.args.n (omega (arith, c.if-n-lt-LAST_BELOW.false)) (omega (arith, c.if-n-lt-SHORT_BELOW.true)))

pub returns-then-n-lt-SHORT_BELOW-clause-written : goal.returns-then-n-lt-SHORT_BELOW-clause-written
returns-then-n-lt-SHORT_BELOW-clause-written c =
    let n = c.args.n in
    let from : 128 ≤ n = omega (arith, c.if-n-lt-LAST_BELOW.false) in
    let to : n < 16384 = omega (arith, c.if-n-lt-SHORT_BELOW.true) in (
      spelling n,
      spelling_least n (omega arith),
      two_long n from to,
      c.write_u16.ensures ∙ ap (λ l. l ++ drop 2 c.args.buf.now) (two_bytes n _ from to (omega arith)),
    )

pub write_long-requires : goal.write_long-requires
write_long-requires c = shortest_room c.args.n (length c.args.buf.now) (omega arith) c.requires
