use Rattle.std.proofs.Common.{◌≡◌, IsSome, None, subst, take_all, arith}
use Rattle.std.specs.List.{All}
use Rattle.std.proofs.lemmas.Bool.{false≢true}
use Rattle.std.proofs.lemmas.List.Elements.{All-nil}
use Rattle.hdr_logs.specs.Scales.{exponent_of}
use Rattle.hdr_logs.proofs.Greatest.{greatest_none, greatest_more, greatest_all}
use Rattle.hdr_logs.proofs.SomeOf.{some_next, all_next}
use Rattle.hdr_logs.proofs.scales.finest_unit.Goals as goal

pub loop-interval-init : goal.loop-interval-init
loop-interval-init c = record {
  exponent = greatest_none (λ s. exponent_of s.unit) c.args.intervals.now;
  some = λ is. absurd (false≢true is);
  none = λ is. All-nil (λ s. s.unit ≡ None);
}

pub loop-interval-preserved : goal.loop-interval-preserved
loop-interval-preserved c =
    let all = c.args.intervals.now in
    let i = c.loop-interval.interval-index in
    let item = c.interval-item.result in
    let finer = c.finer-finest.ensures in
    record {
      exponent = greatest_more (λ s. exponent_of s.unit) all i (exponent_of c.loop-interval.finest) (exponent_of c.finer-finest.result) item c.loop-interval-test.true c.interval-item.is c.loop-interval.invariant.exponent finer.exponent;
      some = λ is. some_next (λ s. IsSome s.unit) all i item c.loop-interval-test.true c.interval-item.is c.loop-interval.invariant.some (finer.some is);
      none = λ is. all_next (λ s. s.unit ≡ None) all i item c.loop-interval-test.true c.interval-item.is (c.loop-interval.invariant.none (finer.none is).0) (finer.none is).1;
    }

pub returns-clause-exponent : goal.returns-clause-exponent
returns-clause-exponent c = greatest_all (λ s. exponent_of s.unit) c.args.intervals.now c.loop-interval.interval-index (exponent_of c.loop-interval.finest) (omega (arith, c.loop-interval-test.false)) c.loop-interval.invariant.exponent

pub returns-clause-none : goal.returns-clause-none
returns-clause-none c = λ is. subst (All (λ s. s.unit ≡ None)) (take_all c.loop-interval.interval-index c.args.intervals.now (omega (arith, c.loop-interval-test.false))) (c.loop-interval.invariant.none is)
