use Rattle.std.proofs.Common.{[], ◌+◌, List, take, take_all, sym, subst, arith}
use Rattle.hdr_summary.specs.Classes.{HasClasses}
use Rattle.hdr_summary.specs.Levels.{bound_of}
use Rattle.hdr_summary.specs.declared.classes.ClassCounts.{ClassCounts}
use Rattle.hdr_summary.specs.declared.levels.Level.{Level}
use Rattle.hdr_runs.specs.LogCounts.{AreCountsAt}
use Rattle.hdr_logs.proofs.Zips.{zip-more}
use Rattle.hdr_runs.proofs.log_counts.empty_counts.Goals as goal

pub loop-level-preserved : goal.loop-level-preserved
loop-level-preserved c = λ few.
    let R : Level → ClassCounts → Type 0 = λ level counts. HasClasses counts (bound_of level.side level.number) c.args.decimals [] in
    subst (AreCountsAt (take (c.loop-level.level-index + 1) c.args.levels.now) c.args.decimals []) (sym {A = List ClassCounts} c.in_ok-push.ensures.items)
    (zip-more R c.args.levels.now c.loop-level.all.items c.loop-level.level-index c.level-item.result c.new.result c.loop-level-test.true c.level-item.is (c.loop-level.invariant few) (c.new.ensures few))

pub returns : goal.returns
returns c = λ few. subst (λ l. AreCountsAt l c.args.decimals [] c.loop-level.all.items) (take_all c.loop-level.level-index c.args.levels.now (omega arith)) (c.loop-level.invariant few)
