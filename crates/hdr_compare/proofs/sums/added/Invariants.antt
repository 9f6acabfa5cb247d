use Rattle.std.proofs.Common.{◌≡◌, ◌<◌, ◌^◌, ◌++◌, [], ℕ, List, length, drop}
use Rattle.std.specs.List.{All}
use Rattle.hdr_base.specs.Classes.{IsFiner}
use Rattle.hdr_model.specs.Plain.{resolution}
use Rattle.hdr_model.specs.Samples.{StandsFor}
use Rattle.hdr_compare.specs.Parts.{AreParts}
use Rattle.hdr_compare.proofs.sums.added.Given as goal

-- the sum stands for what is before the samples of the other batches
abbrev pub invariant-loop-batch : goal.invariant-loop-batch
invariant-loop-batch l = (resolution l.sum ≡ resolution l.fn.sum)
    × (StandsFor l.fn.sum [] → All (λ h. IsFiner (resolution h) (resolution l.fn.sum)) l.fn.batches → (S : List ℕ) → length S < 2 ^ 64 → AreParts S l.fn.batches
    → (done rest : List ℕ) × (S ≡ done ++ rest) × StandsFor l.sum done × AreParts rest (drop l.batch-index l.fn.batches))
