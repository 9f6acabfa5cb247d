use Rattle.std.proofs.Common.{◌≡◌, ℕ, ◌*◌, ◌^◌, ◌<◌, min, ap, sym, ◌∙◌, arith, inl, inr}
use Rattle.std.proofs.lemmas.Bool.{cases_lt}
use Rattle.hdr_input.proofs.InUnits.{positive}
use Rattle.hdr_input.proofs.Positions.{none_past}
use Rattle.hdr_input.specs.Bounds.{position_of}
use Rattle.hdr_input.proofs.number.Number.position.Goals as goal

pub position_of_quotient-requires-clause-some : goal.position_of_quotient-requires-clause-some
position_of_quotient-requires-clause-some c =
    let e : c.in-Some.divisor ≡ 10 ^ c.args.self.decimals = c.in-Some.ensures.1 in
    rw e (positive c.args.self.decimals)

pub returns-in-Some-clause-value : goal.returns-in-Some-clause-value
unfolding position_of
returns-in-Some-clause-value c =
    let e : c.in-Some.divisor ≡ 10 ^ c.args.self.decimals = c.in-Some.ensures.1 in
    rw (c.from-dividend.ensures, e) at c.position_of_quotient.ensures

pub returns-in-None-clause-value : goal.returns-in-None-clause-value
unfolding position_of
returns-in-None-clause-value c =
    let N : ℕ = c.args.self.digits * 10 ^ 18 in
    let D : ℕ = 10 ^ c.args.self.decimals in
    let small : N < 2 ^ 128 = omega (arith, c.from-dividend.ensures, c.from-dividend.type_inv) in
    let lt : N < D = elim (cases_lt N D) [ inl l ↦ l | inr ge ↦ absurd (c.in-None.ensures (omega (arith, ge, small))) ] in
    c.min.ensures ∙ ap (λ n. min (n * 10 ^ 18) 1) c.from-dividend.ensures ∙ sym (none_past N D lt)
