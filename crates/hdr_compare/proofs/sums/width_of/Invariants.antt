use Rattle.std.proofs.Common.{◌≡◌, ◌⊎◌, ℕ, ◌<◌, get_or}
use Rattle.std.specs.List.{Any}
use Rattle.hdr_model.specs.Plain.{Plain}
use Rattle.hdr_compare.specs.Sums.{IsWithin}
use Rattle.hdr_compare.proofs.sums.width_of.Given as goal

abbrev pub invariant-loop-batch : goal.invariant-loop-batch
invariant-loop-batch l = ((k : ℕ) (d : Plain) → k < l.batch-index → IsWithin l.width (get_or l.fn.batches k d))
    × ((l.width.low ≡ 1) ⊎ Any (λ h. h.low ≡ l.width.low) l.fn.batches)
    × ((l.width.sigfig ≡ 5) ⊎ Any (λ h. h.sigfig ≡ l.width.sigfig) l.fn.batches)
