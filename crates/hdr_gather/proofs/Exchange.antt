-- Samples in another order, and samples that fit.
use Rattle.std.proofs.Common.{◌≡◌, ℕ, ◌-◌, ◌^◌, ◌<◌, ◌≤◌, eqb, List, ◌++◌, length, length-append, arith}
use Rattle.std.proofs.lemmas.List.Elements.{All-append}
use Rattle.std.proofs.lemmas.List.Sums.{count_by-le-length}
use Rattle.hdr_base.specs.Classes.{Resolution, bin_of}
use Rattle.hdr_model.specs.Plain.{Plain, resolution, reach}
use Rattle.hdr_model.specs.Samples.{StandsFor, Fits, in_class}
use Rattle.hdr_model.proofs.MergingStands.{in_class-append, StandsFor-swap}
use Rattle.hdr_logs.proofs.Parts.{all_front, all_behind}

in_class-exchange : (g : Resolution) (i : ℕ) (A B : List ℕ) → in_class g i (A ++ B) ≡ in_class g i (B ++ A)
in_class-exchange g i A B = omega (arith, in_class-append g i A B, in_class-append g i B A)

pub length-exchange : (A B : List ℕ) → length (A ++ B) ≡ length (B ++ A)
length-exchange A B = omega (arith, length-append A B, length-append B A)

-- a histogram stands for samples in any order
pub stands_exchanged : (h : Plain) (A B : List ℕ) → StandsFor h (A ++ B) → StandsFor h (B ++ A)
stands_exchanged h A B s =
    let P : ℕ → Type 0 = λ x. x ≤ reach h in
    StandsFor-swap h (A ++ B) (B ++ A) (λ i. in_class-exchange (resolution h) i A B) (length-exchange A B)
    (All-append P B A (all_behind P A B s.within) (all_front P A B s.within)) s

-- counters of 64 bits hold as many samples as 64 bits count
pub fits_by_length : (g : Resolution) (S : List ℕ) → length S < 2 ^ 64 → Fits (2 ^ 64 - 1) g S
fits_by_length g S few = record {
  in_all = few;
  in_classes = λ i. omega (arith, few, count_by-le-length (λ s. eqb (bin_of g s) i) S);
}
