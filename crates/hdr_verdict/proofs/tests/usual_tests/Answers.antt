use Rattle.std.proofs.Common.{◌∙◌, ◌++◌, ◌∷◌, [], List, None, take, take_all, get_or, ap, sym}
use Rattle.std.specs.List.{flat_map}
use Rattle.std.proofs.lemmas.List.{get_or-map, take_more}
use Rattle.hdr_verdict.specs.declared.tail.Tail.{Tail}
use Rattle.hdr_verdict.specs.declared.slow.Test.{Test}
use Rattle.hdr_verdict.specs.Tests.{usual_in, usual_test, usual_tests}
use Rattle.hdr_verdict.proofs.Each.{flat-push}
use Rattle.hdr_verdict.proofs.tests.usual_tests.Goals as goal

pub loop-index-preserved : goal.loop-index-preserved
loop-index-preserved c = λ cells s.
    let tails = c.args.tails.now in
    let i = c.loop-index.index in
    let tail = c.index-tails-index.result in
    let f : Tail → List Test = λ t. usual_test t (usual_in cells t) in
    let usual = c.usual_at.ensures ∙ ap (λ l. get_or l i None) (c.deref.ensures.value ∙ c.in_ok-all.ensures.usual cells s) ∙ get_or-map (usual_in cells) tails i tail None c.loop-index-test.true ∙ ap (usual_in cells) (sym c.index-tails-index.is) in
    let front = take_more tails i tail c.loop-index-test.true ∙ ap (λ t. take i tails ++ t ∷ []) (sym c.index-tails-index.is) in
    c.in_ok-push_test.ensures ∙ ap (λ l. l ++ usual_test tail c.usual_at.result) (c.loop-index.invariant cells s) ∙ ap (λ u. usual_tests (take i tails) cells ++ usual_test tail u) usual
    ∙ sym (flat-push f (take i tails) tail) ∙ ap (flat_map f) (sym front)

pub returns-clause-tests : goal.returns-clause-tests
returns-clause-tests c = λ cells s. c.loop-index.invariant cells s ∙ ap (λ l. usual_tests l cells) (take_all c.loop-index.index c.args.tails.now c.loop-index-test.false)
