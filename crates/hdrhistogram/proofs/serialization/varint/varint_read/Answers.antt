use Rattle.std.proofs.Common.{arith}
use Rattle.hdrhistogram.proofs.VarintRead.{taken_next, taken_end, taken_last, weight_fits, value_fits}
use Rattle.hdrhistogram.proofs.serialization.varint.varint_read.Goals as goal

pub returns-then-place-eq8-clause-ok : goal.returns-then-place-eq8-clause-ok
returns-then-place-eq8-clause-ok g c =
    rw c.from-byte.ensures (taken_last _ _ _ _ _ _ _ c.bytes.invariant c.read_exact.auto.buffer (omega arith) c.in_ok-read_exact.ensures.ok c.if-place-eq8.true)

pub overflow_mul-value : goal.overflow_mul-value
overflow_mul-value g c = omega (arith, value_fits _ _ _ c.from-byte.result c.bytes.invariant.read.weight_is c.bytes.invariant.read.few c.if-place-eq8.false c.bytes.invariant.read.below)

pub overflow_add-value : goal.overflow_add-value
overflow_add-value g c = omega (arith, value_fits _ _ _ c.from-byte.result c.bytes.invariant.read.weight_is c.bytes.invariant.read.few c.if-place-eq8.false c.bytes.invariant.read.below)

pub returns-then-byte-lt-LAST_BELOW-clause-ok : goal.returns-then-byte-lt-LAST_BELOW-clause-ok
returns-then-byte-lt-LAST_BELOW-clause-ok g c =
    rw c.from-byte.ensures (taken_end _ _ _ _ _ _ _ c.bytes.invariant c.read_exact.auto.buffer (omega arith) c.in_ok-read_exact.ensures.ok c.if-place-eq8.false (omega arith))

pub overflow_mul-weight : goal.overflow_mul-weight
overflow_mul-weight g c = omega (arith, weight_fits _ _ c.bytes.invariant.read.weight_is c.bytes.invariant.read.few c.if-place-eq8.false)

pub bytes-preserved : goal.bytes-preserved
bytes-preserved g c =
    rw c.from-byte.ensures (taken_next _ _ _ _ _ _ _ c.bytes.invariant c.read_exact.auto.buffer (omega arith) c.in_ok-read_exact.ensures.ok c.if-place-eq8.false (omega arith))
