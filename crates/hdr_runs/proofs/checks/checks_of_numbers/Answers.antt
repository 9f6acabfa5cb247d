use Rattle.std.proofs.Common.{◌+◌, List, take, take_all, sym, subst, arith}
use Rattle.std.specs.List.{AllZip}
use Rattle.std.specs.Option.{option_map}
use Rattle.hdr_runs.specs.LevelChecks.{IsOfTally}
use Rattle.hdr_runs.specs.declared.level_check.LevelCheck.{LevelCheck}
use Rattle.hdr_logs.proofs.Zips.{zip-more}
use Rattle.hdr_runs.proofs.checks.checks_of_numbers.Goals as goal

pub loop-level-preserved : goal.loop-level-preserved
loop-level-preserved c = λ S has few.
    let R = IsOfTally c.args.tally.now S (option_map (λ i. i.now) c.args.intervals) in
    subst (AllZip R (take (c.loop-level.level-index + 1) c.args.levels.now)) (sym {A = List LevelCheck} c.in_ok-push.ensures.items)
    (zip-more R c.args.levels.now c.loop-level.checks.items c.loop-level.level-index c.level-item.result c.in_ok-of_numbers.field-0 c.loop-level-test.true c.level-item.is (c.loop-level.invariant S has few) (c.in_ok-of_numbers.ensures S has few))

pub returns : goal.returns
returns c = λ S has few.
    let R = IsOfTally c.args.tally.now S (option_map (λ i. i.now) c.args.intervals) in
    subst (λ l. AllZip R l c.loop-level.checks.items) (take_all c.loop-level.level-index c.args.levels.now (omega arith)) (c.loop-level.invariant S has few)
