use Rattle.std.proofs.Common.{◌≡◌, ◌∙◌, ◌+◌, ◌++◌, ◌∷◌, [], ℕ, map, take, ap, sym, subst}
use Rattle.std.specs.List.{All}
use Rattle.std.proofs.lemmas.List.{map_push, take_more}
use Rattle.std.proofs.lemmas.List.Elements.{All-push}
use Rattle.hdr_figures.specs.Figures.{value_at}
use Rattle.hdr_figures.specs.Widths.{IsWithClass}
use Rattle.hdr_figures.specs.declared.level.LevelValue.{LevelValue}
use Rattle.hdr_figures.specs.declared.level.PageLevel.{PageLevel}
use Rattle.hdr_figures.proofs.sum.Sum.at_levels.Goals as goal

abbrev value_of : LevelValue → ℕ
value_of at = at.value

pub loop-level-preserved : goal.loop-level-preserved
loop-level-preserved c =
    let h = c.args.self.now.histogram in
    let f : PageLevel → ℕ = λ level. value_at h level.num level.den in
    let fits : LevelValue → Type 0 = IsWithClass c.args.self.now.width in
    let before = c.loop-level.invariant in
    let i = c.loop-level.level-index in
    let levels = c.args.levels.now in
    let level = c.level-item.result in
    let old = c.loop-level.all.items in
    let at = c.at_level.result in
    let front : take (i + 1) levels ≡ take i levels ++ level ∷ [] = take_more levels i level c.loop-level-test.true ∙ ap (λ t. take i levels ++ t ∷ []) (sym c.level-item.is) in
    record {
      values = ap (map value_of) c.in_ok-push.ensures.items ∙ map_push value_of old at ∙ ap (λ l. l ++ value_of at ∷ []) before.values
          ∙ ap (λ v. map f (take i levels) ++ v ∷ []) c.at_level.ensures.value ∙ sym (map_push f (take i levels) level) ∙ ap (map f) (sym front);
      class = subst (All fits) (sym c.in_ok-push.ensures.items) (All-push fits old at before.class c.at_level.ensures.class);
    }
