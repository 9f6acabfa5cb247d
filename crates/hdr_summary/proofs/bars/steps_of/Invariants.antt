use Rattle.std.proofs.Common.{◌≡◌, ◌≤◌, ◌+◌, ℕ, List, length}
use Rattle.hdr_model.specs.Plain.{resolution}
use Rattle.hdr_model.specs.Samples.{StandsFor}
use Rattle.hdr_summary.specs.Bars.{LeadTo, count_of, begun, HaveBegun}
use Rattle.hdr_summary.proofs.bars.steps_of.Given as goal

abbrev pub invariant-loop : goal.invariant-loop
invariant-loop l = (length l.steps.items + 1 ≤ l.counter) × (count_of l.steps.items ≡ l.below) × (l.below ≤ l.histogram.total)
    × (l.least ≤ l.greatest → (l.lowest ≤ l.greatest) × LeadTo l.least l.steps.items l.lowest)
    × ((S : List ℕ) → StandsFor l.histogram S
    → HaveBegun (resolution l.histogram) S 0 l.steps.items × ((v : ℕ) → l.lowest ≤ v → l.below ≤ begun (resolution l.histogram) S v))
