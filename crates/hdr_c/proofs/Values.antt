-- Values at quantiles that are stored one after another.
use Rattle.std.proofs.Common.{◌≡◌, ◌∙◌, ℕ, ◌+◌, ◌<◌, List, length, slice_index, slice_set, refl, arith}
use Rattle.std.proofs.lemmas.Grind.{get_or-set_at}
use Rattle.std.proofs.lemmas.List.{get_or-set_other, length-set}
use Rattle.hdr_model.specs.Plain.{Plain}
use Rattle.hdr_model.specs.Quantiles.{value_at_quantile}
use Rattle.hdr_c.specs.Fractions.{AreValues}

pub no_values : (h : Plain) (nums values : List ℕ) (den : ℕ) → AreValues h nums den 0 values values
no_values h nums values den = record { same_length = refl; values = λ i lt. grind arith; rest = λ i le. refl }

pub next_value : (h : Plain) (nums old new : List ℕ) (den n value : ℕ) → n < length new → value ≡ value_at_quantile h (record { num = slice_index nums n; den = den })
    → AreValues h nums den n old new → AreValues h nums den (n + 1) old (slice_set new n value)
next_value h nums old new den n value lt is are = record {
  same_length = length-set new n value ∙ are.same_length;
  values = λ i le. grind (arith, is, are.values, get_or-set_at, get_or-set_other);
  rest = λ i le. grind (arith, are.rest, get_or-set_other);
}
