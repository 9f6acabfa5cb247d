use Rattle.std.proofs.Common.{◌≡◌, ◌*◌, ◌++◌, ℕ, List, None, OnOk, string_bytes, sym, subst, ap, ◌∙◌, arith}
use Rattle.hdr_view.specs.Amounts.{IsLabel}
use Rattle.hdr_view.proofs.Amounts.{plain_label}
use Rattle.hdr_view.proofs.amount.Units.push_whole.Goals as goal

pub returns-in-None : goal.returns-in-None
returns-in-None c = λ fits.
    let old = string_bytes c.args.text.now in
    let new = string_bytes c.push_exact.new.text in
    let one : c.args.self.times ≡ 1 = c.args.self.unknown c.in-None.is in
    let same : c.args.value * c.args.self.times ≡ c.args.value = rw one (omega arith) in
    let label = plain_label c.push_exact.result c.args.value old new c.push_exact.ensures in
    let in_unit = subst (λ v. OnOk c.push_exact.result ((x : List ℕ) × IsLabel None v x × (new ≡ old ++ x))) (sym same) label in
    subst (λ u. OnOk c.push_exact.result ((x : List ℕ) × IsLabel u (c.args.value * c.args.self.times) x × (new ≡ old ++ x))) (sym c.in-None.is) in_unit
