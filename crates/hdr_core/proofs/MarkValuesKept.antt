-- The values of the marks of a histogram.
use Rattle.std.proofs.Common.{◌≡◌, ℕ, ◌-◌, ◌^◌, ◌<◌, ◌≤◌, Option, Some, None, IfSome, length, refl, inl, inr}
use Rattle.std.proofs.lemmas.Bool.{cases_lt}
use Rattle.hdr_base.specs.Classes.{bin_of}
use Rattle.hdr_model.specs.Marks.{top_of_mark, value_of_mark}
use Rattle.hdr_model.specs.Plain.{Plain, IsPlain, resolution, max_of, min_nz_of}
use Rattle.hdr_model.proofs.PlainKept.{index-inside}
use Rattle.hdr_core.specs.MarkValues.{IsOfValues}

-- a mark that is a bin is the class of some value
pub of-values : (greatest : ℕ) (h : Plain) (mark : Option ℕ) → IsPlain greatest h → IfSome mark (λ i. i < length h.counts) → IsOfValues (resolution h) mark
of-values greatest h None p inside = tt
of-values greatest h (Some i) p inside =
    elim (cases_lt (bin_of (resolution h) (2 ^ 64 - 1)) i) [
      | inl past ↦ absurd (index-inside greatest h i p inside past)
      | inr within ↦ within
    ]

pub later-of-values : (greatest : ℕ) (h : Plain) (mark : Option ℕ) → IsPlain greatest h → IfSome mark (λ i. (0 < i) × (i < length h.counts)) → IsOfValues (resolution h) mark
later-of-values greatest h None p inside = tt
later-of-values greatest h (Some i) p inside = of-values greatest h (Some i) p inside.1

pub greatest-is-max : (h : Plain) → top_of_mark (resolution h) h.top_mark ≡ max_of h
unfolding max_of
greatest-is-max h = refl

pub lowest-is-min_nz : (h : Plain) → value_of_mark (resolution h) h.lower_mark ≡ min_nz_of h
unfolding min_nz_of
lowest-is-min_nz h = refl
