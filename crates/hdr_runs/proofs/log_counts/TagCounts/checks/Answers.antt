use Rattle.std.proofs.Common.{◌≡◌, ◌+◌, List, length, take, take_all, get_or, sym, subst, ap, ◌∙◌, arith}
use Rattle.std.specs.List.{AllZip}
use Rattle.std.specs.Option.{option_map}
use Rattle.std.proofs.lemmas.Slice.Zip.{AllZip-long}
use Rattle.hdr_summary.specs.Classes.{HasClasses}
use Rattle.hdr_summary.specs.Levels.{bound_of}
use Rattle.hdr_summary.specs.declared.classes.ClassCounts.{ClassCounts}
use Rattle.hdr_summary.specs.declared.levels.Level.{Level}
use Rattle.hdr_runs.specs.LevelChecks.{IsOfTag}
use Rattle.hdr_runs.specs.LogCounts.{counts_of}
use Rattle.hdr_runs.specs.declared.level_check.LevelCheck.{LevelCheck}
use Rattle.hdr_logs.proofs.Zips.{zip-at, zip-more}
use Rattle.hdr_runs.proofs.log_counts.TagCounts.checks.Goals as goal

pub loop-index-preserved : goal.loop-index-preserved
loop-index-preserved c = λ L has.
    let R = IsOfTag c.args.self.now c.args.decimals L (option_map (λ i. i.now) c.args.intervals) in
    let Q : Level → ClassCounts → Type 0 = λ level counts. HasClasses counts (bound_of level.side level.number) c.args.decimals L in
    let found = c.in-Some.ensures.lookup in
    let at : c.in-Some.counts.now ≡ get_or (counts_of c.args.self.now) c.loop-index.index c.in-Some.counts.now =
    found.1 ∙ ap (λ l. get_or l c.loop-index.index c.in-Some.counts.now) c.counts.ensures in
    let held = zip-at Q c.args.levels.now (counts_of c.args.self.now) c.loop-index.index c.index-levels-index.result c.in-Some.counts.now has.at_levels c.loop-index-test.true c.index-levels-index.is at in
    subst (AllZip R (take (c.loop-index.index + 1) c.args.levels.now)) (sym {A = List LevelCheck} c.in_ok-push.ensures.items)
    (zip-more R c.args.levels.now c.loop-index.checks.items c.loop-index.index c.index-levels-index.result c.in_ok-check.check c.loop-index-test.true c.index-levels-index.is (c.loop-index.invariant L has) (c.in_ok-check.ensures L held))

pub returns-in_default : goal.returns-in_default
returns-in_default c = λ L has.
    let Q : Level → ClassCounts → Type 0 = λ level counts. HasClasses counts (bound_of level.side level.number) c.args.decimals L in
    let long = AllZip-long Q c.args.levels.now (counts_of c.args.self.now) has.at_levels in
    let same = ap length c.counts.ensures in
    absurd (omega (arith, long, same, c.in_default.ensures.lookup, c.loop-index-test.true))

pub returns : goal.returns
returns c = λ L has.
    let R = IsOfTag c.args.self.now c.args.decimals L (option_map (λ i. i.now) c.args.intervals) in
    subst (λ l. AllZip R l c.loop-index.checks.items) (take_all c.loop-index.index c.args.levels.now (omega arith)) (c.loop-index.invariant L has)
