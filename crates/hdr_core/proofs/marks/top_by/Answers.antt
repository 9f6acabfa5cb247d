use Rattle.std.proofs.Common.{◌≡◌, ℕ, ◌-◌, ◌<◌, ◌≤◌, Option, Some, None, ⊎_elim, sym, ap, ◌∙◌, arith}
use Rattle.std.proofs.lemmas.Bool.{cases_lt}
use Rattle.std.specs.Prelude.{SomeIff}
use Rattle.hdr_model.specs.Marks.{top_by}
use Rattle.hdr_model.proofs.MarksWidened.{top-none, top-some}
use Rattle.hdr_core.proofs.marks.top_by.Goals as goal

top-known : (o : Option ℕ) (n : ℕ) → SomeIff o (1 ≤ n) (n - 1) → o ≡ top_by n
top-known None n h = ⊎_elim (λ (lt : n < 1). sym (top-none n (omega (arith, lt)))) (λ (ge : 1 ≤ n). absurd (h ge)) (cases_lt n 1)
top-known (Some x) n h = ap Some h.1 ∙ sym (top-some n (λ e. absurd (omega (arith, h.0, e))))

pub returns : goal.returns
returns c = top-known c.checked_sub.result c.args.classes c.checked_sub.ensures
