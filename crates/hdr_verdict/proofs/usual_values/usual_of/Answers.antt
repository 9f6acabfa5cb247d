use Rattle.std.proofs.Common.{◌≡◌, ◌∙◌, ◌*◌, ◌<◌, ℕ, length, refl, sym, subst}
use Rattle.std.specs.List.{All, sum_by}
use Rattle.hdr_verdict.specs.Usual.{least_block}
use Rattle.hdr_verdict.specs.declared.tail.Tail.{Tail}
use Rattle.hdr_verdict.proofs.FewBlocks.{usual-of-none}
use Rattle.hdr_verdict.proofs.Keeping.{total-is}
use Rattle.hdr_verdict.proofs.usual_values.usual_of.Goals as goal

pub returns-clause-usual : goal.returns-clause-usual
returns-clause-usual c = λ cells s.
    let tails = c.args.tails.now in
    let total : c.total.result ≡ sum_by length cells = c.total.ensures ∙ total-is c.args.samples.now cells s in
    let few = subst (λ (n : ℕ). All (λ (t : Tail). n < 4 * least_block t.num t.den 0) tails) total (c.has_enough.ensures c.if-has_enough.false) in
    c.in_ok-none_for.ensures ∙ sym (usual-of-none (sum_by length cells) cells tails refl few)
