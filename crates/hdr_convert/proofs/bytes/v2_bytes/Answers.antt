use Rattle.std.proofs.Common.{rules, inr, subst, List, ℕ}
use Rattle.std.proofs.lemmas.Result.{IfOk-weaker}
use Rattle.hdr_convert.specs.Old.{IsV2OfOld}
use Rattle.hdr_convert.proofs.bytes.v2_bytes.Goals as goal

pub returns-in-Err-clause-v2_of : goal.returns-in-Err-clause-v2_of
returns-in-Err-clause-v2_of c =
    let inside = c.in_ok-decompressed-in-Err.field-0.items in
    let holds = c.in_ok-decompressed-in-Err.ensures.sound in
    IfOk-weaker c.v2_of_old-in-Err.result _ _
    (λ v2 is. inr (inr (inr (search rules, inside, search rules, subst (λ (s : List ℕ). IsV2OfOld s v2.items) (search rules) is))))
    c.v2_of_old-in-Err.ensures.v2
