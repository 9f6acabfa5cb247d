use Rattle.std.proofs.Common.{◌≡◌, ◌+◌, ◌-◌, ◌^◌, ◌≤◌, ℕ, min, sum_by}
use Rattle.hdr_base.specs.Classes.{lowest_of}
use Rattle.hdr_model.specs.Plain.{resolution}
use Rattle.hdr_summary.proofs.SampleSums.{weight}
use Rattle.hdr_summary.proofs.means.SampleSum.of.Given as goal

-- what is added to the sums so far, and what is still to come, is all
abbrev pub invariant-loop-item : goal.invariant-loop-item
invariant-loop-item l =
    let most : ℕ = 2 ^ 128 - 1 in
    let lowest = weight (lowest_of (resolution l.histogram)) in
    let greatest = weight (λ v. v) in
    (min (l.low + sum_by lowest l.item-iterator) most ≡ min (sum_by lowest l.initial.item-iterator) most)
    × (min (l.high + sum_by greatest l.item-iterator) most ≡ min (sum_by greatest l.initial.item-iterator) most)
    × (l.low ≤ most) × (l.high ≤ most) × (l.histogram ≡ l.fn.histogram)
