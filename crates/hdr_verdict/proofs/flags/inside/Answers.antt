use Rattle.std.proofs.Common.{◌∙◌, ◌++◌, ◌∷◌, [], ℕ, Bool, ap, sym, arith}
use Rattle.std.specs.List.{list_any}
use Rattle.std.proofs.lemmas.List.FromFn.{map-range_with_len_more}
use Rattle.hdr_verdict.specs.declared.runs.Run.{Run}
use Rattle.hdr_verdict.specs.Slow.{inside, is_in}
use Rattle.hdr_verdict.proofs.flags.inside.Goals as goal

pub loop-index-preserved : goal.loop-index-preserved
loop-index-preserved c =
    let runs = c.args.runs.now in
    let f : ℕ → Bool = λ i. list_any (λ (run : Run). is_in run i) runs in
    c.in_ok-push.ensures.items ∙ ap (λ l. l ++ c.is_inside.result ∷ []) c.loop-index.invariant ∙ ap (λ b. inside runs c.loop-index.index ++ b ∷ []) c.is_inside.ensures
    ∙ sym (map-range_with_len_more f 0 c.loop-index.index c.loop-index.index (omega arith))
