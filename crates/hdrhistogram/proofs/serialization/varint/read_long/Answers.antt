use Rattle.std.proofs.Common.{arith}
use Rattle.hdrhistogram.proofs.VarintRead.{read_next, read_end, read_last, weight_fits, value_fits}
use Rattle.hdrhistogram.proofs.serialization.varint.read_long.Goals as goal

pub overflow_mul-value : goal.overflow_mul-value
overflow_mul-value c = omega (arith, value_fits _ _ _ c.from-byte.result c.loop-place.invariant.weight_is c.loop-place.invariant.few c.if-place-eq8.false c.loop-place.invariant.below)

pub overflow_add-value : goal.overflow_add-value
overflow_add-value c = omega (arith, value_fits _ _ _ c.from-byte.result c.loop-place.invariant.weight_is c.loop-place.invariant.few c.if-place-eq8.false c.loop-place.invariant.below)

pub overflow_mul-weight : goal.overflow_mul-weight
overflow_mul-weight c = omega (arith, weight_fits _ _ c.loop-place.invariant.weight_is c.loop-place.invariant.few c.if-place-eq8.false)

pub returns-then-place-eq8-clause-found : goal.returns-then-place-eq8-clause-found
returns-then-place-eq8-clause-found c = rw c.from-byte.ensures (read_last c.args.bytes.now _ _ _ (λ i. omega (arith, c.type_inv.bytes i)) c.loop-place.invariant c.if-place-eq8.true (omega arith))

pub returns-then-byte-lt-LAST_BELOW-clause-found : goal.returns-then-byte-lt-LAST_BELOW-clause-found
returns-then-byte-lt-LAST_BELOW-clause-found c = rw c.from-byte.ensures (read_end c.args.bytes.now _ _ _ (λ i. omega (arith, c.type_inv.bytes i)) c.loop-place.invariant (omega arith) (omega arith) (omega arith))

pub loop-place-preserved : goal.loop-place-preserved
loop-place-preserved c = rw c.from-byte.ensures (read_next _ _ _ _ c.loop-place.invariant (omega arith) (omega arith) (omega arith))
