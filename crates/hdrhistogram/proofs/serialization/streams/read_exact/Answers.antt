use Rattle.std.proofs.Common.{arith, rules}
use Rattle.std.proofs.lemmas.Result.{err_from_is_err_and}
use Rattle.hdrhistogram.proofs.StreamsReaders.{Consumes-more, Consumes-stopped, Consumes-ended}
use Rattle.hdrhistogram.proofs.serialization.streams.read_exact.Goals as goal

pub returns-in_err-taken-clause-err : goal.returns-in_err-taken-clause-err
returns-in_err-taken-clause-err g c =
    let p = err_from_is_err_and c.from_residual.result c.from_residual.ensures.1 in
    rw p.1 (Consumes-stopped _ _ _ _ _ _ (omega arith) c.loop-done.invariant.within c.loop-done.invariant.taken c.in_err-taken.ensures.bytes)

pub returns-then-taken-eq0-clause-err : goal.returns-then-taken-eq0-clause-err
returns-then-taken-eq0-clause-err g c = Consumes-ended _ _ _ _ _ _ _ _ (omega arith) c.loop-done.invariant.within c.if-taken-eq0.true c.loop-done.invariant.taken c.in_ok-taken.ensures.bytes.0

pub loop-done-preserved : goal.loop-done-preserved
loop-done-preserved g c = record {
  within = search rules;
  taken = Consumes-more _ _ _ _ _ _ _ c.loop-done.invariant.within c.in_ok-taken.ensures.bound.0 c.loop-done.invariant.taken c.in_ok-taken.ensures.bytes.0;
}
