-- The value at a quantile.
use Rattle.std.proofs.Common.{◌≡◌, ℕ, zero, suc, ◌+◌, ◌-◌, ◌*◌, ◌/◌, ◌^◌, ◌<◌, ◌≤◌, min, List, length, get_or, take, sum, sym, ap, subst, ◌∙◌, arith, inl, inr, Option, Some, None, IfSome}
use Rattle.std.specs.Int.{div_ceil}
use Rattle.std.proofs.lemmas.Bool.{cases_lt}
use Rattle.std.proofs.lemmas.List.{take_all}
use Rattle.std.proofs.lemmas.List.Sums.{sum_by_more}
use Rattle.std.proofs.lemmas.List.Elements.{All-weaker}
use Rattle.std.proofs.Math.Nat.{one-le-pow}
use Rattle.std.proofs.lemmas.Nat.{div-add-mod', mod_below, div_below, mul-le}
use Rattle.hdr_base.specs.Fractions.{Ratio}
use Rattle.hdr_base.specs.Classes.{Resolution, bin_of, lowest_of, top_of, width_of, resolution_of}
use Rattle.hdr_base.proofs.ClassesLaws.{bin-top, top-of-value, lowest-le, width-of-units, width-bound, width-pos}
use Rattle.hdr_counts.specs.Blocks.{IsFirstToReach, looks}
use Rattle.hdr_model.specs.Plain.{Plain, IsPlain, resolution, reach}
use Rattle.hdr_model.specs.Samples.{StandsFor}
use Rattle.hdr_model.specs.Quantiles.{sorted, rank, ranked_sample, IsTopNear}
use Rattle.hdr_base.proofs.ClassesDigits.{digits-enough}
use Rattle.hdr_model.proofs.PlainKept.{resolution-digits, room-in}
use Rattle.hdr_model.proofs.QuantilesOrder.{FirstReaching, class-of-rank, in_first-all, running}

-- a rank is between 1 and the number of samples
pub ceil-le : (a d n : ℕ) → 0 < d → a ≤ n * d → div_ceil a d ≤ n
ceil-le a d n pos le =
    let split = div-add-mod' a d in
    let less = mod_below a d pos in
    elim (cases_lt n (a / d)) [
      | inl lt ↦ absurd (omega (arith, mul-le (n + 1) d (a / d) d (omega arith) (omega arith)))
      | inr ge ↦ elim (cases_lt (a / d) n) [
        | inl lt ↦ omega arith
        | inr same ↦ (
            let row : n * d ≤ a / d * d = mul-le n d (a / d) d same (omega arith) in
            omega arith
            )
      ]
    ]

pub rank-bound : (q : Ratio) (n : ℕ) → 0 < q.den → 0 < n → rank q n ≤ n
unfolding rank
rank-bound q n pos some =
    let row : min q.num q.den * n ≤ n * q.den = omega (arith, mul-le (min q.num q.den) n q.den n (omega arith) (omega arith)) in
    omega (arith, ceil-le (min q.num q.den * n) q.den n pos row)

pub rank-pos : (q : Ratio) (n : ℕ) → 0 < rank q n
unfolding rank
rank-pos q n = omega arith

sums-rise : (xs : List ℕ) (i d : ℕ) → i + d ≤ length xs → sum (take i xs) ≤ sum (take (i + d) xs)
sums-rise xs i zero le = let e : i + 0 ≡ i = omega arith in rw e (omega arith)
sums-rise xs i (suc d) le =
    let e : i + suc d ≡ (i + d) + 1 = omega arith in
    rw e (omega (arith, sum_by_more (λ x. x) xs (i + d) 0 (omega arith), sums-rise xs i d (omega arith)))

not-later : (counts : List ℕ) (r i j : ℕ) → FirstReaching counts r i → FirstReaching counts r j → i < j → ⊥
not-later counts r i j a b lt =
    let e : j ≡ (i + 1) + (j - (i + 1)) = omega arith in
    let up = rw (← e) at (sums-rise counts (i + 1) (j - (i + 1)) (omega (arith, b.in_bins))) in
    omega (arith, a.reached, b.before)

-- there is one first class
pub first-one : (counts : List ℕ) (r i j : ℕ) → FirstReaching counts r i → FirstReaching counts r j → i ≡ j
first-one counts r i j a b =
    elim (cases_lt i j) [
      | inl lt ↦ absurd (not-later counts r i j a b lt)
      | inr ge ↦ elim (cases_lt j i) [ inl lt ↦ absurd (not-later counts r j i b a lt) | inr le ↦ omega arith ]
    ]

top-below : (g : Resolution) (s : ℕ) → top_of g s + 1 ≤ s + width_of g s
unfolding top_of
top-below g s = omega (arith, lowest-le g s, width-pos g s)

parts : (greatest : ℕ) (h : Plain) (s : ℕ) → IsPlain greatest h → 2 ^ ((resolution h).unit + (resolution h).digits) ≤ s → width_of (resolution h) s * 10 ^ h.sigfig ≤ lowest_of (resolution h) s
unfolding resolution_of
parts greatest h s p large = width-bound (resolution h) s (10 ^ h.sigfig) (resolution-digits greatest h p) (digits-enough h.sigfig) large

-- the top of a class is near each of its values
pub top-near : (greatest : ℕ) (h : Plain) (s value : ℕ) → IsPlain greatest h → value ≡ top_of (resolution h) s → IsTopNear h s value
top-near greatest h s value p e = record {
  is_top = e;
  at_least = omega (arith, top-of-value (resolution h) s);
  close = elim (cases_lt s (2 ^ ((resolution h).unit + (resolution h).digits))) [
    | inl small ↦ inl (omega (arith, top-below (resolution h) s, width-of-units (resolution h) s small, width-pos (resolution h) s))
    | inr large ↦ inr (
        let part : width_of (resolution h) s * 10 ^ h.sigfig ≤ lowest_of (resolution h) s = parts greatest h s p large in
        let gap : value - s + 1 ≤ width_of (resolution h) s = omega (arith, top-below (resolution h) s, width-pos (resolution h) s) in
        let row : (value - s + 1) * 10 ^ h.sigfig ≤ width_of (resolution h) s * 10 ^ h.sigfig = mul-le (value - s + 1) (10 ^ h.sigfig) (width_of (resolution h) s) (10 ^ h.sigfig) gap (omega arith) in
        omega (arith, lowest-le (resolution h) s, one-le-pow h.sigfig 10 (omega arith))
        )
  ];
}

module _ (greatest : ℕ) (h : Plain) (q : Ratio) (p : IsPlain greatest h) (pos : 0 < q.den) where
  -- the class of the rank has the ranked sample
  pub value-ranked : (S : List ℕ) (i lowest : ℕ) → StandsFor h S → 0 < length S → FirstReaching h.counts (rank q h.total) i → bin_of (resolution h) lowest ≡ i
      → IsTopNear h (ranked_sample q S) (top_of (resolution h) lowest)
  unfolding ranked_sample
  value-ranked S i lowest s some first is =
      let r = rank q (length S) in
      let k = r - 1 in
      let in_range : k < length S = omega (arith, rank-bound q (length S) pos some, rank-pos q (length S)) in
      let here : FirstReaching h.counts (k + 1) i =
      subst (λ n. FirstReaching h.counts n i) (ap (λ n. rank q n) s.total ∙ (let e : r ≡ k + 1 = omega (arith, rank-pos q (length S)) in e)) first in
      let class = class-of-rank h S k i (resolution-digits greatest h p) s in_range here in
      top-near greatest h (get_or (sorted S) k 0) (top_of (resolution h) lowest) p (bin-top (resolution h) lowest (get_or (sorted S) k 0) (resolution-digits greatest h p) (is ∙ sym class))

  -- some class reaches the rank
  pub value-some : (S : List ℕ) → StandsFor h S → 0 < length S → sum h.counts < rank q h.total → ⊥
  value-some S s some none =
      let all = running h S (length h.counts) s (omega arith) in
      let whole : take (length h.counts) h.counts ≡ h.counts = take_all (length h.counts) h.counts (omega arith) in
      let every = in_first-all (resolution h) (length h.counts) S (All-weaker (λ x. x ≤ reach h) (λ x. bin_of (resolution h) x < length h.counts) (λ x le. room-in greatest h x p le) S s.within) in
      let total : rank q h.total ≡ rank q (length S) = ap (λ n. rank q n) s.total in
      omega (arith, rank-bound q (length S) pos some, ap sum whole)

pub first-by : (counts : List ℕ) (r i : ℕ) → IsFirstToReach counts r i → FirstReaching counts r i
first-by counts r i f = record { in_bins = f.0; reached = f.2; before = f.1 }

-- no more blocks and counters are looked at than there are blocks, and counters in a block
pub looks-most : (block places n : ℕ) (o : Option ℕ) → 0 < block → places ≡ n * block → IfSome o (λ i. i < places) → looks block places o ≤ n + block
looks-most block places n None pos is inside =
    let more : (n + 1) * block ≡ n * block + block = omega arith in
    omega (arith, div_below places block (n + 1) pos (omega (arith, is, pos, more)))
looks-most block places n (Some i) pos is inside =
    omega (arith, mod_below i block pos, div_below i block n pos (omega (arith, is, inside)))
