use Rattle.std.proofs.Common.{◌≡◌, ◌∙◌, ◌≤◌, take_all, ap, sym, subst, arith}
use Rattle.std.specs.List.{All}
use Rattle.hdr_view.proofs.LevelFacts.{least-below, least-each, least_of}
use Rattle.hdr_view.proofs.view.View.least.Goals as goal

pub returns-clause-below : goal.returns-clause-below
returns-clause-below c =
    let levels = c.args.self.now.options.levels.now in
    let n = c.args.self.now.log.all.min in
    let whole : c.loop-level.least ≡ least_of n levels = c.loop-level.invariant ∙ ap (least_of n) (take_all c.loop-level.level-index levels c.loop-level-test.false) in
    omega (arith, whole, least-below levels n)

pub returns-clause-levels : goal.returns-clause-levels
returns-clause-levels c =
    let levels = c.args.self.now.options.levels.now in
    let n = c.args.self.now.log.all.min in
    let whole : c.loop-level.least ≡ least_of n levels = c.loop-level.invariant ∙ ap (least_of n) (take_all c.loop-level.level-index levels c.loop-level-test.false) in
    subst (λ m. All (λ l. m ≤ l.value) levels) (sym whole) (least-each levels n)
