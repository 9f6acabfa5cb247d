-- The lower mark that a search for the first number above 0 finds, and marks that are bins.
use Rattle.std.proofs.Common.{◌≡◌, ℕ, ◌+◌, ◌-◌, ◌^◌, ◌<◌, ◌≤◌, arith, List, Option, Some, None, IfSome, get_or}
use Rattle.std.specs.Option.{MatchOption}
use Rattle.hdr_base.specs.Classes.{most_bins}
use Rattle.hdr_model.specs.Marks.{IsLowerMark, top_by, lower_by}
use Rattle.hdr_model.proofs.MarksWidened.{top-none, top-of-class, lower-none, lower-of-class}

pub lower-of : (ns : List ℕ) (first : Option ℕ) → IfSome first (λ m. (0 < m) × (m < most_bins))
    → MatchOption first ((i : ℕ) → 0 < i → get_or ns i 0 ≡ 0) (λ m. (0 < get_or ns m 0) × ((i : ℕ) → 0 < i → i < m → get_or ns i 0 ≡ 0)) → IsLowerMark ns first
lower-of ns None within place = place
lower-of ns (Some m) within place = (within.0, place.0, place.1)

pub few-marks : (mark : Option ℕ) (n : ℕ) → IfSome mark (λ i. i < n) → n ≤ most_bins → IfSome mark (λ i. i < 2 ^ 32)
few-marks None n inside few = tt
few-marks (Some i) n inside few = omega (arith, inside, few)

-- marks by the numbers that are kept for them
pub top_made : (mark : Option ℕ) (n : ℕ) → MatchOption mark (n ≡ 0) (λ i. n ≡ i + 1) → top_by n ≡ mark
top_made None n is = top-none n is
top_made (Some i) n is = top-of-class n i is

pub lower_made : (mark : Option ℕ) (n : ℕ) → IfSome mark (λ i. (0 < i) × (i < 2 ^ 32)) → MatchOption mark (n ≡ 2 ^ 64 - 1) (λ i. n ≡ i - 1) → lower_by n ≡ mark
lower_made None n inside is = lower-none n is
lower_made (Some i) n inside is = lower-of-class n i inside.0 inside.1 is
