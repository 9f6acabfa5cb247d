use Rattle.std.proofs.Common.{◌≡◌, ℕ, ◌+◌, ◌^◌, ◌<◌, ◌≤◌, Option, Some, None, ⊎_elim, sym, ap, ◌∙◌, arith}
use Rattle.std.proofs.lemmas.Bool.{cases_lt}
use Rattle.std.specs.Prelude.{SomeIff}
use Rattle.hdr_model.specs.Marks.{lower_by}
use Rattle.hdr_model.proofs.MarksWidened.{lower-none, lower-some}
use Rattle.hdr_core.proofs.marks.lower_by.Goals as goal

lower-known : (o : Option ℕ) (n : ℕ) → SomeIff o (n + 1 < 2 ^ 64) (n + 1) → n < 2 ^ 64 → o ≡ lower_by n
lower-known None n h fits =
    ⊎_elim (λ (lt : n + 1 < 2 ^ 64). absurd (h lt)) (λ (ge : 2 ^ 64 ≤ n + 1). sym (lower-none n (omega (arith, ge, fits)))) (cases_lt (n + 1) (2 ^ 64))
lower-known (Some x) n h fits = ap Some h.1 ∙ sym (lower-some n (λ e. absurd (omega (arith, h.0, e))))

pub returns : goal.returns
returns c = lower-known c.checked_add.result c.args.before c.checked_add.ensures (omega arith)
