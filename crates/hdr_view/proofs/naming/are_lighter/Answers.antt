use Rattle.std.proofs.Common.{◌≡◌, ◌∙◌, ◌+◌, ◌<◌, ◌++◌, ◌∷◌, [], take, take_all, ap, sym, subst, rules}
use Rattle.std.specs.List.{All}
use Rattle.std.proofs.lemmas.List.{take_more}
use Rattle.std.proofs.lemmas.List.Elements.{All-push}
use Rattle.hdr_view.specs.declared.naming.NamedIncidents.{NamedIncidents}
use Rattle.hdr_view.proofs.naming.are_lighter.Goals as goal

pub loop-line-preserved : goal.loop-line-preserved
loop-line-preserved c =
    let P = λ (line : NamedIncidents). c.args.index < line.heaviest in
    let i = c.loop-line.line-index in
    let lines = c.args.lines.now in
    let line = c.line-item.result in
    let front : take (i + 1) lines ≡ take i lines ++ line ∷ [] = take_more lines i line c.loop-line-test.true ∙ ap (λ l. take i lines ++ l ∷ []) (sym c.line-item.is) in
    subst (All P) (sym front) (All-push P (take i lines) line c.loop-line.invariant c.if-line-index.false)

pub returns : goal.returns
returns c = (λ yes. subst (All (λ (line : NamedIncidents). c.args.index < line.heaviest)) (take_all c.loop-line.line-index c.args.lines.now c.loop-line-test.false) c.loop-line.invariant, λ all. search rules)
