use Rattle.std.proofs.Common.{◌≡◌, Some, None, lit<, sym, subst, ◌∙◌, true, inl, inr}
use Rattle.std.specs.Char.{is_ascii_digit}
use Rattle.std.specs.List.{list_all}
use Rattle.std.proofs.lemmas.Str.Pattern.{split_after, split_parts}
use Rattle.hdr_log.proofs.PartsDigits.{digits_all}
use Rattle.hdr_summary.proofs.Percentiles.{no-point, not-split}
use Rattle.hdr_summary.proofs.percentile.split_digits.Goals as goal

pub returns-in-Some-clause-only : goal.returns-in-Some-clause-only
returns-in-Some-clause-only c = λ whole part split digits.
    let all = digits_all whole digits in
    let parts = split_parts 46 c.args.digits.now (Some (c.in-Some.whole, c.in-Some.part)) c.in-Some.ensures.cases (lit< tt) in
    elim split [
      | inl is ↦ (
          let cut = split_after 46 c.args.digits.now whole part (Some (c.in-Some.whole, c.in-Some.part)) c.in-Some.ensures.cases (lit< tt) is (no-point whole all) in
          (c.as_bytes.ensures.value ∙ cut.0, c.as_bytes-in-Some.ensures.value ∙ cut.1))
      | inr is ↦ absurd (not-split c.args.digits.now c.in-Some.whole.now c.in-Some.part.now (subst (λ d. list_all is_ascii_digit d ≡ true) (sym is.0) all) parts.0)
    ]

pub returns-in-None-clause-only : goal.returns-in-None-clause-only
returns-in-None-clause-only c = λ whole part split digits.
    let all = digits_all whole digits in
    elim split [
      | inl is ↦ absurd (split_after 46 c.args.digits.now whole part None c.in-None.ensures.cases (lit< tt) is (no-point whole all))
      | inr is ↦ (c.as_bytes-in-None.ensures.value ∙ is.0, c.as_slice.ensures ∙ sym is.1)
    ]
