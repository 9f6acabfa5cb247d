use Rattle.std.proofs.Common.{◌≡◌, ℕ, ◌-◌, ◌^◌, ◌<◌, Option, Some, None, ap, subst, ◌∙◌}
use Rattle.std.specs.Prelude.{MatchOption, IfSome, unwrap_or}
use Rattle.hdr_base.specs.Classes.{Resolution, bin_of, value_of}
use Rattle.hdr_model.specs.Plain.{Plain, resolution}
use Rattle.hdr_model.proofs.PlainKept.{index-inside}
use Rattle.hdr_core.proofs.histogram.Histogram.class_value.Goals as goal

-- a value that is there
known : (o : Option ℕ) (v : ℕ) (B : Type 0) (Q : ℕ → Type 0) → MatchOption o B Q → (B → ⊥) → IfSome o (λ x. x ≡ v) → unwrap_or o 0 ≡ v
known None v B Q h absent is = absurd (absent h)
known (Some x) v B Q h absent is = is

pub returns : goal.returns
returns g c =
    let h = c.args.self.now in
    let same = c.self.invariant.scale ∙ ap (λ (p : Plain). resolution p) c.self.view_is in
    c.unwrap_or.ensures
    ∙ known c.bin_value.result _ _ _ c.bin_value.ensures.value
    (λ past. index-inside g.T.Counter.greatest h c.args.bin (rw c.self.view_is at c.self.invariant.plain) c.requires (subst (λ (s : Resolution). bin_of s (2 ^ 64 - 1) < c.args.bin) same past))
    c.bin_value.ensures.formula
    ∙ ap (λ (s : Resolution). value_of s c.args.bin) same
