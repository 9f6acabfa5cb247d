use Rattle.std.proofs.Common.{◌≡◌, List, [], ◌∷◌, length, refl, arith}
use Rattle.std.proofs.lemmas.Grind.{common_steps}
use Rattle.hdr_runs.proofs.log_counts.LogCounts.parse_levels.Goals as goal

nothing : {X : Type 0} (l : List X) → length l ≡ 0 → l ≡ []
nothing [] none = refl
nothing (x ∷ l) none = absurd (omega (arith, none))

pub returns-clause-levels : goal.returns-clause-levels
returns-clause-levels c = record {
  asked = refl;
  known = λ some. absurd (some (nothing c.args.self.now.levels.items (grind (arith, common_steps, c.is_empty.ensures, c.if-not-is_empty.false))));
  parsed = λ _. c.in_ok-self.ensures.texts;
  amounts = λ _. (c.args.unit, c.in_ok-self.ensures.levels);
}
