use Rattle.std.proofs.Common.{rules, inr}
use Rattle.std.proofs.lemmas.Result.{IfOk-weaker}
use Rattle.hdr_convert.proofs.bytes.compressed.Goals as goal

pub returns-clause-holds : goal.returns-clause-holds
returns-clause-holds c =
    let v2 = c.in_ok-plain.plain.items in
    IfOk-weaker c.with_header.result _ _
    (λ packed is. inr (search rules, is.0, v2, c.in_ok-plain.ensures.v2_of, is.1))
    (c.with_header.ensures.holds v2 (search rules))
