-- When two histograms count as equal. (`eq`: the same bounds' low and digits, the same total, greatest and least value, and
-- the same number of every class; the Rust crate's is not symmetric if one array is shorter.)
use Rattle.std.specs.Prelude.{◌≡◌, slice_index, ℕ, Bool, ◌==◌, List, [], ◌∷◌}
use Rattle.std.proofs.Common.{zero, suc}
use Rattle.std.specs.Ordering.{on, eq_of_both}
use lib.Pointwise.{pointwise}
use Rattle.hdr_model.specs.Plain.{Plain, max_of, min_nz_of}

-- a number before a list in which zeros at the end are left out
abbrev pub put_first : ℕ → List ℕ → List ℕ
put_first zero [] = []
put_first (suc n) [] = suc n ∷ []
put_first n (x ∷ xs) = n ∷ x ∷ xs

-- the numbers up to the last that is not 0
abbrev pub without_end_zeros : List ℕ → List ℕ
without_end_zeros [] = []
without_end_zeros (x ∷ xs) = put_first x (without_end_zeros xs)

-- numbers after the end of a list count as 0
abbrev pub same_numbers : List ℕ → List ℕ → Bool
same_numbers = on without_end_zeros (pointwise ◌==◌)

abbrev pub same_plain : Plain → Plain → Bool
same_plain =
    eq_of_both (on (λ h. h.low) ◌==◌) (eq_of_both (on (λ h. h.sigfig) ◌==◌) (eq_of_both (on (λ h. h.total) ◌==◌)
    (eq_of_both (on max_of ◌==◌) (eq_of_both (on min_nz_of ◌==◌) (on (λ h. without_end_zeros h.counts) (pointwise ◌==◌))))))

-- two histograms that count as equal, said part by part
pub record IsSame (h k : Plain) : Type 0 where
  pub low : h.low ≡ k.low
  pub sigfig : h.sigfig ≡ k.sigfig
  pub total : h.total ≡ k.total
  pub max : max_of h ≡ max_of k
  pub min_nz : min_nz_of h ≡ min_nz_of k
  pub numbers : (i : ℕ) → slice_index h.counts i ≡ slice_index k.counts i
