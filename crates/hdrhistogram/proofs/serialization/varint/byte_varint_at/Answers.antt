use Rattle.std.proofs.Common.{◌<◌, length, arith}
use Rattle.std.proofs.lemmas.Bool.Decides.{nat_tests}
use Rattle.hdrhistogram.proofs.VarintRead.{one_spelt}
use Rattle.hdrhistogram.proofs.serialization.varint.byte_varint_at.Goals as goal

pub returns-clause-found : goal.returns-clause-found
returns-clause-found c =
    let some : 0 < length c.args.bytes.now = grind (arith, nat_tests, c.is_empty.ensures, c.if-is_empty.false) in
    rw c.from-first.ensures (one_spelt c.args.bytes.now some (omega (arith, c.from-first.ensures, c.if-first-ge-LAST_BELOW.false)))
