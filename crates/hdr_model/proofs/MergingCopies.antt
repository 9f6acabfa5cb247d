-- A histogram added to an empty one of its bounds.
use Rattle.std.proofs.Common.{◌≡◌, ℕ, ◌+◌, ◌<◌, ◌≤◌, min, true, Option, Some, None, List, [], ◌∷◌, length, get_or, replicate, refl, sym, ap, ◌∙◌, subst, arith, inl, inr}
use Rattle.std.specs.List.{All}
use Rattle.std.proofs.lemmas.Bool.{cases_lt}
use Rattle.std.proofs.lemmas.List.{length-replicate, get_or_past}
use Rattle.std.proofs.lemmas.List.Elements.{All-head, All-tail}
use Rattle.hdr_base.specs.Classes.{value_of, top_of, bin_of, bins_to}
use Rattle.hdr_base.proofs.ClassesFiner.{bin-value_of}
use Rattle.hdr_base.proofs.ClassesReach.{reach-holds}
use Rattle.hdr_counts.specs.Blocks.{capped_sums}
use Rattle.hdr_model.specs.Plain.{Plain, IsPlain, resolution, reach, max_of, empty_plain}
use Rattle.hdr_model.specs.Marks.{IsAbove}
use Rattle.hdr_model.specs.CallErrors.{IsBounds}
use Rattle.hdr_model.specs.Merging.{same_bins, after_add_same_bins, highest_top}
use Rattle.hdr_model.proofs.PlainKept.{resolution-digits, room-of}
use Rattle.hdr_model.proofs.RecordingStands.{eqb-same}
use Rattle.hdr_model.proofs.RecordingClears.{max-marked}
use Rattle.hdr_model.proofs.StatisticsShares.{top-order}
use Rattle.hdr_model.proofs.MergingCorrects.{last-le, bin-of-top}

pub same-bins-empty : (greatest : ℕ) (h : Plain) → IsPlain greatest h → same_bins (empty_plain h.low h.high h.sigfig h.auto_resize) h ≡ true
unfolding empty_plain
same-bins-empty greatest h p =
    let len : length (replicate {A = ℕ} (bins_to (resolution h) h.high) 0) ≡ length h.counts = length-replicate (bins_to (resolution h) h.high) 0 ∙ sym p.bins in
    rw (len, eqb-same (resolution h).unit, eqb-same (resolution h).digits, eqb-same (length h.counts)) refl

-- numbers added to zeros
zeros-first : (greatest : ℕ) (xs : List ℕ) → All (λ n. n ≤ greatest) xs → capped_sums greatest (replicate (length xs) 0) xs ≡ xs
zeros-first greatest [] fit = refl
zeros-first greatest (x ∷ xs) fit =
    ap (λ n. n ∷ capped_sums greatest (replicate (length xs) 0) xs) (let le = All-head (λ n. n ≤ greatest) x xs fit in let e : min (0 + x) greatest ≡ x = omega (arith, le) in e)
    ∙ ap (λ ns. x ∷ ns) (zeros-first greatest xs (All-tail (λ n. n ≤ greatest) x xs fit))

pub joined-copy : (greatest : ℕ) (h : Plain) → IsPlain greatest h → after_add_same_bins greatest (empty_plain h.low h.high h.sigfig h.auto_resize) h ≡ h
unfolding after_add_same_bins empty_plain
joined-copy greatest h p =
    ap (λ ns. record h { counts = ns }) (ap (λ n. capped_sums greatest (replicate n 0) h.counts) (sym p.bins) ∙ zeros-first greatest h.counts p.numbers_fit)

pub reach-empty : (h : Plain) (x : ℕ) → x ≤ reach h → x ≤ reach (empty_plain h.low h.high h.sigfig h.auto_resize)
unfolding reach empty_plain
reach-empty h x le = le

pub highest-in : (greatest : ℕ) (h : Plain) → IsPlain greatest h → highest_top h ≤ reach h
unfolding highest_top
highest-in greatest h p =
    let m = resolution-digits greatest h p in
    last-le (resolution h) (reach h) 0 h.counts (λ i pos.
    let inside : 0 + i < length h.counts = elim (cases_lt i (length h.counts)) [ inl lt ↦ omega arith | inr ge ↦ absurd (omega (arith, get_or_past h.counts i 0 ge)) ] in
    let at : bin_of (resolution h) (top_of (resolution h) (value_of (resolution h) (0 + i))) ≡ 0 + i = bin-of-top (resolution h) (value_of (resolution h) (0 + i)) m ∙ bin-value_of (resolution h) (0 + i) m in
    room-of greatest h (top_of (resolution h) (value_of (resolution h) (0 + i))) p (omega (arith, at, inside)))

-- the last nonempty class is at or below the top mark's
pub highest-max : (greatest : ℕ) (h : Plain) → IsPlain greatest h → highest_top h ≤ max_of h
unfolding highest_top
highest-max greatest h p = last-le (resolution h) (max_of h) 0 h.counts (λ i pos. below i pos h.top_mark refl)
  where
    below : (i : ℕ) → 0 < get_or h.counts i 0 → (mark : Option ℕ) → h.top_mark ≡ mark → top_of (resolution h) (value_of (resolution h) (0 + i)) ≤ max_of h
    below i pos None e = absurd (omega (arith, pos, p.none_above i (subst (λ o. IsAbove o i) (sym e) tt)))
    below i pos (Some m) e = elim (cases_lt m i) [
      | inl lt ↦ absurd (omega (arith, pos, p.none_above i (subst (λ o. IsAbove o i) (sym e) lt)))
      | inr le ↦ (
          let digits = resolution-digits greatest h p in
          let order = top-order (resolution h) (0 + i) (value_of (resolution h) m) digits in
          omega (arith, max-marked h m e, order.1 (omega (arith, bin-value_of (resolution h) m digits)))
          )
    ]

-- the highest value of a histogram has a bin
pub high-in : (h : Plain) → h.high ≤ reach h
unfolding reach
high-in h = reach-holds (resolution h) h.high

-- a histogram's bounds are allowed
pub own-bounds : (greatest : ℕ) (h : Plain) → IsPlain greatest h → IsBounds h.low h.high h.sigfig
own-bounds greatest h p = record { low_fits = omega (arith, p.wide, p.high_fits); wide = p.wide; scale = p.scale }
