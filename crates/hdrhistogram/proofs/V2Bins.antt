-- What the encoding of a histogram relies on: the bins after the top mark are empty.
use Rattle.std.proofs.Common.{◌≡◌, ℕ, ◌+◌, ◌<◌, ◌≤◌, length, arith, Option, Some, None, unwrap_or, inl, inr, take, get_or}
use Rattle.std.proofs.lemmas.Bool.{cases_lt}
use Rattle.std.proofs.lemmas.List.{get_or-take}
use Rattle.std.proofs.lemmas.Grind.{get_or_default_zero}
use Rattle.hdrhistogram.specs.V2.{written_bins}
use Rattle.hdr_model.specs.Plain.{Plain, IsPlain}
use Rattle.hdr_model.specs.Marks.{IsAbove}

above-mark : (mark : Option ℕ) (i : ℕ) → unwrap_or mark 0 + 1 ≤ i → IsAbove mark i
above-mark None i h = tt
above-mark (Some m) i h = omega arith

-- the bins that are not written are empty
pub not-written : (greatest : ℕ) (h : Plain) (i : ℕ) → IsPlain greatest h → written_bins h ≤ i → get_or h.counts i 0 ≡ 0
not-written greatest h i p later = p.none_above i (above-mark h.top_mark i later)

-- if no written count is too great, no count is
pub all-small : (greatest limit : ℕ) (h : Plain) → 0 < limit → IsPlain greatest h → ((k : ℕ) → k < written_bins h → get_or (take (written_bins h) h.counts) k 0 < limit)
    → (k d : ℕ) → k < length h.counts → get_or h.counts k d < limit
all-small greatest limit h some p small k d lt = rw (get_or_default_zero h.counts k d lt) (elim (cases_lt k (written_bins h)) [
  | inl within ↦ omega (arith, small k within, get_or-take (written_bins h) h.counts k 0 within)
  | inr later ↦ omega (arith, not-written greatest h k p later)
])
