use Rattle.std.proofs.Common.{◌≤◌, ◌-◌, ◌<◌, length, sym, subst, arith}
use Rattle.std.proofs.lemmas.List.Elements.{AllWithin-from_all}
use Rattle.hdr_logs.specs.Scales.{exponent_of, power_of}
use Rattle.hdr_logs.proofs.Greatest.{greatest_none, greatest_more, greatest_all}
use Rattle.hdr_logs.proofs.scales.most_decimals.Goals as goal

pub loop-interval-init : goal.loop-interval-init
loop-interval-init c = greatest_none (λ s. power_of s - c.args.exponent) c.args.intervals.now

-- the unit of an interval is no finer
pub decimals_in-requires : goal.decimals_in-requires
decimals_in-requires c =
    let all = c.args.intervals.now in
    let i = c.loop-interval.interval-index in
    let item = c.interval-item.result in
    let inside : i < length all = c.loop-interval-test.true in
    subst (λ s. exponent_of s.unit ≤ c.args.exponent) (sym c.interval-item.is) (AllWithin-from_all (λ s. exponent_of s.unit ≤ c.args.exponent) all c.requires i item (omega arith) inside)

pub loop-interval-preserved : goal.loop-interval-preserved
loop-interval-preserved c =
    greatest_more (λ s. power_of s - c.args.exponent) c.args.intervals.now c.loop-interval.interval-index c.loop-interval.most c.greater-most.result
    c.interval-item.result c.loop-interval-test.true c.interval-item.is c.loop-interval.invariant
    (λ high. rw (← c.decimals_in.ensures) (c.greater-most.ensures high))

pub returns : goal.returns
returns c = greatest_all (λ s. power_of s - c.args.exponent) c.args.intervals.now c.loop-interval.interval-index c.loop-interval.most (omega (arith, c.loop-interval-test.false)) c.loop-interval.invariant
