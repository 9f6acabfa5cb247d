use Rattle.std.proofs.Common.{◌≡◌, ◌∙◌, ◌+◌, ◌++◌, ◌∷◌, [], take, take_all, ap, sym, subst}
use Rattle.std.specs.List.{AllZip}
use Rattle.std.proofs.lemmas.List.{take_more}
use Rattle.hdr_view.specs.Views.{IsLevelOf}
use Rattle.hdr_view.proofs.LevelFacts.{zip-push}
use Rattle.hdr_view.proofs.view.tested_levels.Goals as goal

pub loop-level-preserved : goal.loop-level-preserved
loop-level-preserved c =
    let i = c.loop-level.level-index in
    let levels = c.args.levels.now in
    let level = c.level-item.result in
    let old = c.loop-level.all.items in
    let front : take (i + 1) levels ≡ take i levels ++ level ∷ [] = take_more levels i level c.loop-level-test.true ∙ ap (λ t. take i levels ++ t ∷ []) (sym c.level-item.is) in
    subst (λ l. AllZip IsLevelOf l c.push.new.self.items) (sym front)
    (subst (AllZip IsLevelOf (take i levels ++ level ∷ [])) (sym c.in_ok-push.ensures.items) (zip-push IsLevelOf (take i levels) old level c.level_of.result c.loop-level.invariant c.level_of.ensures))

pub returns : goal.returns
returns c = subst (λ l. AllZip IsLevelOf l c.loop-level.all.items) (take_all c.loop-level.level-index c.args.levels.now c.loop-level-test.false) c.loop-level.invariant
