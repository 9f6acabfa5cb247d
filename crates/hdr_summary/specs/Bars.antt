-- The steps of a distribution.
use Rattle.std.specs.Prelude.{⊤, ◌≡◌, ◌≤◌, ◌+◌, ℕ, List, [], ◌∷◌, ◌++◌, nat_le, count_by}
use Rattle.std.specs.List.{sum_by}
use Rattle.hdr_base.specs.Classes.{Resolution, lowest_of}
use Rattle.hdr_summary.specs.declared.bars.Step.{Step}

-- how many numbers are in some steps
abbrev pub count_of : List Step → ℕ
count_of steps = sum_by (λ s. s.count) steps

-- steps that ascend without a gap from one value to the one before another
abbrev pub LeadTo : ℕ → List Step → ℕ → Type 0
LeadTo lowest [] end = lowest ≡ end
LeadTo lowest (s ∷ steps) end = (s.lowest ≡ lowest) × (lowest ≤ s.greatest) × LeadTo (s.greatest + 1) steps end

-- how many samples are in classes that begin at a value or below it
abbrev pub begun : Resolution → List ℕ → ℕ → ℕ
begun g S value = count_by (λ s. nat_le (lowest_of g s) value) S

-- the numbers before steps and those of the steps up to each one are the samples in classes that begin at its greatest value or below it
abbrev pub HaveBegun : Resolution → List ℕ → ℕ → List Step → Type 0
HaveBegun g S before [] = ⊤
HaveBegun g S before (s ∷ more) = (before + s.count ≡ begun g S s.greatest) × HaveBegun g S (before + s.count) more

-- each step has the samples of the classes that begin in it, but for the last one, which has the others
abbrev pub HaveOwn : Resolution → List ℕ → List Step → Type 0
HaveOwn g S steps = (most : List Step) × (last : Step) × (steps ≡ most ++ last ∷ []) × HaveBegun g S 0 most
