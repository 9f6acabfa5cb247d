use Rattle.std.proofs.Common.{◌≡◌, ◌∷◌, [], ℕ, List, Option, MatchOption, sym, subst}
use Rattle.std.proofs.lemmas.Result.{IfOk-weaker}
use Rattle.hdr_verdict.specs.declared.level.TailLevel.{TailLevel}
use Rattle.hdr_verdict.specs.Tests.{AreUsualTests, level_test, usual_tests}
use Rattle.hdr_verdict.specs.TagSamples.{HasSamples}
use Rattle.hdr_verdict.proofs.tests.tests_of.Goals as goal

pub returns-in-None-clause-tests : goal.returns-in-None-clause-tests
returns-in-None-clause-tests c =
    let old = c.args.samples.now in
    IfOk-weaker c.usual_tests.result (λ tests. (cells : List (List ℕ)) → HasSamples old cells → tests.items ≡ usual_tests c.all_tails.result cells)
    (λ tests. (cells : List (List ℕ)) → HasSamples old cells → MatchOption c.args.level (AreUsualTests cells tests.items) (λ l. tests.items ≡ level_test l cells ∷ []))
    (λ tests is cells s. subst (λ (level : Option TailLevel). MatchOption level (AreUsualTests cells tests.items) (λ l. tests.items ≡ level_test l cells ∷ [])) (sym c.in-None.is) (c.all_tails.result, c.all_tails.ensures, is cells s))
    c.usual_tests.ensures.tests
