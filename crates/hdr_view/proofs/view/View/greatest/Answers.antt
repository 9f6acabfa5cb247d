use Rattle.std.proofs.Common.{◌≡◌, ◌∙◌, ◌≤◌, max, take_all, ap, sym, subst, arith}
use Rattle.std.specs.List.{All}
use Rattle.hdr_view.proofs.LevelFacts.{greatest-above, greatest-each, greatest_of}
use Rattle.hdr_view.proofs.view.View.greatest.Goals as goal

pub returns-clause-some : goal.returns-clause-some
returns-clause-some c =
    let levels = c.args.self.now.options.levels.now in
    let n = max c.args.self.now.log.all.max 1 in
    let whole : c.loop-level.greatest ≡ greatest_of n levels = c.loop-level.invariant ∙ ap (greatest_of n) (take_all c.loop-level.level-index levels c.loop-level-test.false) in
    omega (arith, whole, greatest-above levels n)

pub returns-clause-above : goal.returns-clause-above
returns-clause-above c =
    let levels = c.args.self.now.options.levels.now in
    let n = max c.args.self.now.log.all.max 1 in
    let whole : c.loop-level.greatest ≡ greatest_of n levels = c.loop-level.invariant ∙ ap (greatest_of n) (take_all c.loop-level.level-index levels c.loop-level-test.false) in
    omega (arith, whole, greatest-above levels n)

pub returns-clause-levels : goal.returns-clause-levels
returns-clause-levels c =
    let levels = c.args.self.now.options.levels.now in
    let n = max c.args.self.now.log.all.max 1 in
    let whole : c.loop-level.greatest ≡ greatest_of n levels = c.loop-level.invariant ∙ ap (greatest_of n) (take_all c.loop-level.level-index levels c.loop-level-test.false) in
    subst (λ m. All (λ l. l.value ≤ m) levels) (sym whole) (greatest-each levels n)
