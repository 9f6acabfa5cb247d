use Rattle.std.proofs.Common.{arith, refl, ◌<◌, inl, inr}
use Rattle.std.proofs.lemmas.Bool.{cases_lt}
use Rattle.hdr_verdict.proofs.Rounding.{value-rounds, none-rounds}
use Rattle.hdr_verdict.proofs.width.Width.value.Goals as goal

pub returns : goal.returns
returns c = λ S same r pos proper.
    let some : 0 < c.args.sum.now.total = elim (cases_lt 0 c.args.sum.now.total) [ inl lt ↦ lt | inr ge ↦ (let no = c.if-is_empty.ensures.1 (omega arith) in cc) ] in
    value-rounds c.args.self c.args.sum.now c.args.quantile S c.value_at_quantile.result r same proper some (c.value_at_quantile.ensures.ranked r.exact r.stands (omega (arith, some, r.stands.total)) pos).is_top

pub returns-then-is_empty : goal.returns-then-is_empty
returns-then-is_empty c = λ S same r pos proper. none-rounds c.args.self c.args.sum.now c.args.quantile S r (c.if-is_empty.ensures.0 refl)
