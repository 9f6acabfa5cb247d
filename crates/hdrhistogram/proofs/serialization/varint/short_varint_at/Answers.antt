use Rattle.std.proofs.Common.{refl, arith}
use Rattle.hdrhistogram.proofs.VarintRead.{one_or_two_spelt}
use Rattle.hdrhistogram.proofs.serialization.varint.short_varint_at.Goals as goal

pub returns-clause-found : goal.returns-clause-found
returns-clause-found c =
    let last = rw (c.from-first.ensures, c.from-second.ensures) at c.if-two-second-ge-LAST_BELOW.false in
    rw (c.from-first.ensures, c.from-second.ensures) (one_or_two_spelt c.args.bytes.now _ (omega arith) (omega (arith, c.type_inv.bytes 0)) refl last)
