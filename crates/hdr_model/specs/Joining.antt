-- Histograms that are added in order, and the samples that their sum stands for. (The documentation of `add`, for a list
-- of histograms: no item of the Rust crate, but what merging those of several hosts asks for.)
use Rattle.std.specs.Prelude.{ℕ, ◌<◌, ◌≤◌, List, [], ◌∷◌, ◌++◌, length}
use Rattle.std.specs.List.{flat_map}
use Rattle.hdr_base.specs.Classes.{Resolution, IsFiner}
use Rattle.hdr_base.specs.Fractions.{Ratio}
use Rattle.hdr_model.specs.Plain.{Plain, IsPlain, resolution}
use Rattle.hdr_model.specs.Merging.{after_add}
use Rattle.hdr_model.specs.Samples.{StandsFor, Fits}
use Rattle.hdr_model.specs.Quantiles.{ranked_sample, value_at_quantile, IsTopNear}

-- histograms added to one, in order
abbrev pub after_adds : ℕ → Plain → List Plain → Plain
after_adds greatest h [] = h
after_adds greatest h (k ∷ ks) = after_adds greatest (after_add greatest h k) ks

-- a histogram for counters up to `most` stands for samples, by classes that are no coarser than these
pub record IsPart (most : ℕ) (g : Resolution) (k : Plain) (L : List ℕ) : Type 0 where
  pub plain : IsPlain most k
  pub stands : StandsFor k L
  pub finer : IsFiner (resolution k) g

abbrev pub AreParts : ℕ → Resolution → List Plain → List (List ℕ) → Type 0
AreParts most g [] [] = Unit {0}
AreParts most g (k ∷ ks) (L ∷ Ls) = IsPart most g k L × AreParts most g ks Ls
AreParts most g _ _ = ⊥

abbrev pub joined_samples : List (List ℕ) → List ℕ
joined_samples Ls = flat_map (λ L. L) Ls

-- what is true of each histogram that others were added to, and of all of their samples, if those fit. The histograms that are
-- added count up to `most`
abbrev pub OfEachSum : (ℕ → Plain → List ℕ → Type 0) → Type 0
OfEachSum P =
    (greatest most : ℕ) (h : Plain) (ks : List Plain) (S : List ℕ) (Ls : List (List ℕ)) → 1 ≤ greatest → IsPlain greatest h → StandsFor h S
    → AreParts most (resolution h) ks Ls → Fits greatest (resolution h) (S ++ joined_samples Ls) → P greatest (after_adds greatest h ks) (S ++ joined_samples Ls)

-- the value at each quantile above 0 is the top of the class of the ranked sample, and near that sample
abbrev pub AnswersRanked : Plain → List ℕ → Type 0
AnswersRanked h S = (q : Ratio) → 0 < q.den → 0 < length S → 0 < q.num → IsTopNear h (ranked_sample q S) (value_at_quantile h q)
