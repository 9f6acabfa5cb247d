use Rattle.std.proofs.Common.{◌≡◌, ℕ, ◌+◌, ◌^◌, ◌<◌, List, ◌∷◌, [], ◌++◌, Option, Bor, length, map, take, get_or, sym, ap, ◌∙◌, subst}
use Rattle.std.specs.List.{AllZip}
use Rattle.std.specs.Option.{option_or}
use Rattle.std.proofs.lemmas.List.{get_or_default, map_more, map-append}
use Rattle.hdr_input.specs.declared.unit.Unit.{Unit}
use Rattle.hdr_summary.specs.LevelTexts.{IsLevelText}
use Rattle.hdr_summary.specs.declared.levels.Level.{Level}
use Rattle.hdr_logs.proofs.Zips.{zip-more}
use Rattle.hdr_runs.specs.LogCounts.{IsLevelOf}
use Rattle.hdr_runs.proofs.log_counts.LogCounts.parsed.Goals as goal

-- the level of one text more
more : (asked unit usual other : Option Unit) (texts : List (Bor (List ℕ))) (levels : List Level) (i : ℕ) (d : Bor (List ℕ)) (level : Level)
    → usual ≡ option_or asked unit → other ≡ option_or unit asked → i < length texts
    → (length (get_or texts i d).now < 2 ^ 62 → IsLevelText (get_or texts i d).now usual other level.measure level.side level.number)
    → AllZip (λ text level. IsLevelOf asked unit text.now level) (take i texts) levels
    → AllZip (λ text level. IsLevelOf asked unit text.now level) (take (i + 1) texts) (levels ++ level ∷ [])
more asked unit usual other texts levels i d level first second inside is all =
    let text = (get_or texts i d).now in
    let one : IsLevelOf asked unit text level = λ short.
    subst (λ u. IsLevelText text u (option_or unit asked) level.measure level.side level.number) first
    (subst (λ u. IsLevelText text usual u level.measure level.side level.number) second (is short)) in
    zip-more (λ text level. IsLevelOf asked unit text.now level) texts levels i (get_or texts i d) level inside
    (get_or_default texts i d (get_or texts i d) inside) all one

texts-more : (texts : List (Bor (List ℕ))) (levels : List Level) (i : ℕ) (d : Bor (List ℕ)) (level : Level) → i < length texts
    → level.text.now ≡ (get_or texts i d).now → map (λ level. level.text.now) levels ≡ map (λ text. text.now) (take i texts)
    → map (λ level. level.text.now) (levels ++ level ∷ []) ≡ map (λ text. text.now) (take (i + 1) texts)
texts-more texts levels i d level inside same so_far =
    map-append (λ level. level.text.now) levels (level ∷ [])
    ∙ ap (λ l. l ++ level.text.now ∷ []) so_far
    ∙ ap (λ t. map (λ text. text.now) (take i texts) ++ t ∷ []) same
    ∙ sym (map_more (λ text. text.now) texts i d inside)

pub loop-text-preserved : goal.loop-text-preserved
loop-text-preserved c = record {
  texts = rw c.in-Ok.ensures.items (texts-more c.args.self.now.written.texts.now c.loop-text.levels.items c.loop-text.text-index _ c.in-Some.level
      c.loop-text-test.true c.in-Some.ensures.text c.loop-text.invariant.texts);
  levels = rw c.in-Ok.ensures.items (more c.args.self.now.written.asked c.args.unit c.or.result c.or-in-loop-text.result c.args.self.now.written.texts.now
      c.loop-text.levels.items c.loop-text.text-index _ c.in-Some.level c.or.ensures c.or-in-loop-text.ensures c.loop-text-test.true
      c.in-Some.ensures.level c.loop-text.invariant.levels);
}
