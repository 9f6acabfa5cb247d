use Rattle.std.proofs.Common.{◌≡◌, ◌-◌, ◌^◌, ◌<◌, ap, sym, arith, inl, inr}
use Rattle.std.specs.Prelude.{nat_lt}
use Rattle.std.proofs.Math.Nat.{mod-eq_of_lt}
use Rattle.std.proofs.lemmas.Bool.{cases_lt}
use Rattle.hdr_input.proofs.number.Number.is_rounded.Goals as goal

pub returns-in-None : goal.returns-in-None
returns-in-None c =
    let power = 10 ^ (c.args.self.decimals - c.args.decimals) in
    let same : 10 ^ c.saturating_sub.result ≡ power = ap (λ n. 10 ^ n) c.saturating_sub.ensures in
    let small : c.args.self.digits < power = elim (cases_lt c.args.self.digits power) [ inl lt ↦ lt | inr ge ↦ absurd (c.in-None.ensures (omega (arith, same, ge))) ] in
    ap (λ n. nat_lt 0 n) (sym (mod-eq_of_lt small))
