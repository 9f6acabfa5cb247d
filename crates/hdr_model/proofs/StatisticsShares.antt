-- The quantile of a class, and the quantiles whose values lie up to it.
use Rattle.std.proofs.Common.{◌≡◌, ◌↔◌, ℕ, ◌+◌, ◌-◌, ◌*◌, ◌^◌, ◌<◌, ◌≤◌, leb, min, List, length, take, sum, Option, Some, None, MatchOption, refl, sym, ap, ◌∙◌, arith, inl, inr, eq-eqb}
use Rattle.std.specs.Prelude.{◌&&◌}
use Rattle.std.specs.Int.{div_ceil}
use Rattle.std.proofs.lemmas.Bool.{cases_lt}
use Rattle.std.proofs.lemmas.List.Elements.{All-weaker}
use Rattle.std.proofs.lemmas.List.Sums.{count_by-le-length}
use Rattle.std.proofs.lemmas.Grind.{div_ceil_times}
use Rattle.std.proofs.Math.Nat.{mul-le-mul_right}
use Rattle.hdr_base.specs.Fractions.{Ratio}
use Rattle.hdr_base.specs.Classes.{Resolution, bin_of, value_of, top_of, lowest_of}
use Rattle.hdr_base.proofs.ClassesLaws.{bin-mono, bin-top}
use Rattle.hdr_base.proofs.ClassesFiner.{bin-value_of}
use Rattle.hdr_base.proofs.ClassesIntervals.{bin-first, lowest-first}
use Rattle.hdr_base.proofs.ClassesReach.{past-bins}
use Rattle.hdr_counts.proofs.BlocksSums.{sum_below-le, sum_below-le-sum}
use Rattle.hdr_model.specs.Plain.{Plain, IsPlain, resolution, reach}
use Rattle.hdr_model.specs.Samples.{StandsFor}
use Rattle.hdr_model.specs.Statistics.{bin_or_last, samples_between, quantile_below, IsAtMost}
use Rattle.hdr_model.specs.Quantiles.{rank, position_of_rank, value_at_bin, value_at_quantile}
use Rattle.hdr_model.proofs.StatisticsBetween.{all, held-is}
use Rattle.hdr_model.proofs.PlainBins.{bin-of-top}
use Rattle.hdr_model.proofs.PlainKept.{resolution-digits, room-in}
use Rattle.hdr_model.proofs.QuantilesOrder.{FirstReaching, in_first, in_first-none, in_first-all, running}
use Rattle.hdr_model.proofs.QuantilesValues.{ceil-le, rank-pos, value-some}
use Rattle.hdr_model.proofs.QuantilesFirst.{position_of_rank-found}
use Rattle.hdr_model.proofs.RecordingStands.{eqb-other}

pub share-of-none : (h : Plain) (v : ℕ) → h.total ≡ 0 → quantile_below h v ≡ record { num = 1; den = 1 }
unfolding quantile_below
share-of-none h v e = rw (eq-eqb h.total 0 e) refl

pub share-of-some : (h : Plain) (v : ℕ) → 0 < h.total → quantile_below h v ≡ record { num = min (sum (take (bin_or_last h v + 1) h.counts)) (2 ^ 64 - 1); den = h.total }
unfolding quantile_below
share-of-some h v some = rw (eqb-other h.total 0 (λ z. omega (arith, z))) refl

-- a part of the numbers, capped, is at most the total
pub part-covered : (greatest : ℕ) (h : Plain) (k : ℕ) → IsPlain greatest h → min (sum (take k h.counts)) (2 ^ 64 - 1) ≤ h.total
part-covered greatest h k p = omega (arith, p.total_covers, sum_below-le-sum h.counts k)

-- a fraction of the samples is at most 1, and 1 without samples
pub share-at-most : (greatest : ℕ) (h : Plain) (v : ℕ) → IsPlain greatest h → ((quantile_below h v).num ≤ (quantile_below h v).den) × (0 < (quantile_below h v).den)
share-at-most greatest h v p = elim (cases_lt 0 h.total) [
  | inl some ↦ rw (share-of-some h v some) (part-covered greatest h (bin_or_last h v + 1) p, some)
  | inr none ↦ rw (share-of-none h v (omega arith)) (omega arith, omega arith)
]

-- the samples of the classes up to that of a value are those from 0 to its top
up-to-class : (g : Resolution) (m : 0 < g.digits) (v : ℕ) (S : List ℕ) → in_first g (bin_of g v + 1) S ≡ samples_between 0 (top_of g v) S
up-to-class g m v S =
    let first : bin_of g 0 ≡ 0 = bin-first g in
    let counted = all g m 0 v S (omega (arith, first)) in
    let none : in_first g (bin_of g 0) S ≡ 0 = ap (λ k. in_first g k S) first ∙ in_first-none g S in
    let from : samples_between (lowest_of g 0) (top_of g v) S ≡ samples_between 0 (top_of g v) S = ap (λ l. samples_between l (top_of g v) S) (lowest-first g) in
    omega (arith, counted, none, from)

beyond-bins : (greatest : ℕ) (h : Plain) (v : ℕ) → IsPlain greatest h → reach h < v → length h.counts ≤ bin_of (resolution h) v
unfolding reach
beyond-bins greatest h v p past = omega (arith, p.bins, past-bins (resolution h) h.high v (resolution-digits greatest h p) past)

pub up-to-samples : (greatest : ℕ) (h : Plain) (v : ℕ) (S : List ℕ) → IsPlain greatest h → StandsFor h S
    → sum (take (bin_or_last h v + 1) h.counts) ≡ samples_between 0 (top_of (resolution h) v) S
unfolding bin_or_last
up-to-samples greatest h v S p stands =
    let g = resolution h in
    let m = resolution-digits greatest h p in
    elim (cases_lt (reach h) v) [
      | inr within ↦ (
          let room = room-in greatest h v p within in
          ap (λ k. sum (take (k + 1) h.counts)) (held-is greatest h v p within) ∙ running h S (bin_of g v + 1) stands (omega arith) ∙ up-to-class g m v S
          )
      | inl past ↦ (
          let beyond : length h.counts ≤ bin_of g v = beyond-bins greatest h v p past in
          let each = All-weaker (λ s. s ≤ reach h) (λ s. bin_of g s < length h.counts) (λ s le. room-in greatest h s p le) S stands.within in
          let later = All-weaker (λ s. s ≤ reach h) (λ s. bin_of g s < bin_of g v + 1) (λ s le. omega (arith, room-in greatest h s p le, beyond)) S stands.within in
          let some : 0 < length h.counts = omega (arith, room-in greatest h 0 p (omega arith)) in
          let last : min (bin_of g v) (length h.counts - 1) + 1 ≡ length h.counts = omega (arith, beyond, some) in
          ap (λ k. sum (take k h.counts)) last ∙ running h S (length h.counts) stands (omega arith) ∙ in_first-all g (length h.counts) S each
          ∙ sym (in_first-all g (bin_of g v + 1) S later) ∙ up-to-class g m v S
          )
    ]

pub samples-fit : (greatest : ℕ) (h : Plain) (v : ℕ) (S : List ℕ) → IsPlain greatest h → StandsFor h S → sum (take (bin_or_last h v + 1) h.counts) ≤ h.total
samples-fit greatest h v S p stands =
    omega (arith, up-to-samples greatest h v S p stands, count_by-le-length (λ s. leb 0 s && leb s (top_of (resolution h) v)) S, stands.total)

pub share-of-samples : (greatest : ℕ) (h : Plain) (v : ℕ) (S : List ℕ) → IsPlain greatest h → StandsFor h S → 0 < length S
    → quantile_below h v ≡ record { num = samples_between 0 (top_of (resolution h) v) S; den = length S }
share-of-samples greatest h v S p stands some =
    let fits = samples-fit greatest h v S p stands in
    let capped : min (sum (take (bin_or_last h v + 1) h.counts)) (2 ^ 64 - 1) ≡ samples_between 0 (top_of (resolution h) v) S = omega (arith, fits, p.total_fits, up-to-samples greatest h v S p stands) in
    share-of-some h v (omega (arith, stands.total, some)) ∙ rw (capped, stands.total) refl

-- a rank is at most a number of samples if and only if its quantile is at most their fraction
rank-within : (q : Ratio) (n c : ℕ) → 0 < q.num → q.num ≤ q.den → 0 < n → (rank q n ≤ c) ↔ (q.num * n ≤ c * q.den)
unfolding rank
rank-within q n c pos one some =
    let least : min q.num q.den ≡ q.num = omega arith in
    let same : div_ceil (min q.num q.den * n) q.den ≡ div_ceil (q.num * n) q.den = ap (λ k. div_ceil (k * n) q.den) least in
    let d : ℕ = div_ceil (q.num * n) q.den in
    let enough : q.num * n ≤ d * q.den = (div_ceil_times (q.num * n) q.den (omega arith)).0 in (
      λ le. (
          let row : d * q.den ≤ c * q.den = mul-le-mul_right q.den (let u : d ≤ c = omega (arith, le, same) in u) in
          omega (arith, row, enough)
          ),
      λ le. (
          let up : div_ceil (q.num * n) q.den ≤ c = ceil-le (q.num * n) q.den c (omega arith) le in
          let part : 1 * n ≤ q.num * n = mul-le-mul_right n (let u : 1 ≤ q.num = omega arith in u) in
          let positive : 0 < c = elim (cases_lt 0 c) [
            | inl lt ↦ lt
            | inr none ↦ (let z : c * q.den ≡ 0 = ap (λ k. k * q.den) (let e : c ≡ 0 = omega arith in e) ∙ (let e : 0 * q.den ≡ 0 = omega arith in e) in absurd (omega (arith, le, part, z)))
          ] in
          omega (arith, up, same, positive)
          ),
    )

-- the top of a class is at most that of a value's if and only if its number is
pub top-order : (g : Resolution) (i v : ℕ) → 0 < g.digits → (top_of g (value_of g i) ≤ top_of g v) ↔ (i ≤ bin_of g v)
top-order g i v m =
    let here : bin_of g (top_of g (value_of g i)) ≡ i = bin-of-top g (value_of g i) m ∙ bin-value_of g i m in
    let there = bin-of-top g v m in (
      λ le. omega (arith, here, there, bin-mono g (top_of g (value_of g i)) (top_of g v) m le),
      λ le. elim (cases_lt (top_of g v) (top_of g (value_of g i))) [
        | inr ge ↦ ge
        | inl lt ↦ (
            let back = bin-mono g (top_of g v) (top_of g (value_of g i)) m (omega arith) in
            let same : bin_of g (value_of g i) ≡ bin_of g v = omega (arith, bin-value_of g i m, back, here, there, le) in
            absurd (omega (arith, lt, bin-top g (value_of g i) v m same))
            )
      ],
    )

-- the first class that reaches a rank is at most a class if and only if the sum up to that class reaches it
first-order : (counts : List ℕ) (r i b : ℕ) → FirstReaching counts r i → (i ≤ b) ↔ (r ≤ sum (take (b + 1) counts))
first-order counts r i b first = (
  λ le. omega (arith, first.reached, sum_below-le counts (i + 1) (b + 1) (omega arith)),
  λ le. elim (cases_lt b i) [
    | inr ge ↦ ge
    | inl lt ↦ absurd (omega (arith, first.before, le, sum_below-le counts (b + 1) i (omega arith)))
  ],
)

-- the value at a quantile lies in the classes up to a value's if and only if the quantile is at most that of the class
pub quantile-below : (greatest : ℕ) (h : Plain) (q : Ratio) (v : ℕ) (S : List ℕ) → IsPlain greatest h → StandsFor h S → 0 < length S → 0 < q.num → q.num ≤ q.den
    → (value_at_quantile h q ≤ top_of (resolution h) v) ↔ IsAtMost q (quantile_below h v)
unfolding value_at_quantile bin_or_last
quantile-below greatest h q v S p stands some pos one =
    by_case (position_of_rank h.counts (rank q h.total)) (position_of_rank-found h.counts (rank q h.total) (rank-pos q h.total))
  where
    c : ℕ
    c = sum (take (bin_or_last h v + 1) h.counts)

    n-pos : 0 < h.total
    n-pos = omega (arith, stands.total, some)

    share : quantile_below h v ≡ record { num = c; den = h.total }
    share =
        let fits = samples-fit greatest h v S p stands in
        let capped : min (sum (take (bin_or_last h v + 1) h.counts)) (2 ^ 64 - 1) ≡ c = omega (arith, fits, p.total_fits) in
        share-of-some h v n-pos ∙ rw capped refl

    held-order : (i : ℕ) → i < length h.counts → (i ≤ bin_of (resolution h) v) ↔ (i ≤ min (bin_of (resolution h) v) (length h.counts - 1))
    held-order i lt = (λ le. omega arith, λ le. omega arith)

    by_case : (o : Option ℕ) → MatchOption o (sum h.counts < rank q h.total) (FirstReaching h.counts (rank q h.total))
        → (value_at_bin (resolution h) q.num o ≤ top_of (resolution h) v) ↔ IsAtMost q (quantile_below h v)
    by_case None none = absurd (value-some greatest h q p (omega arith) S stands some none)
    by_case (Some i) first =
        let m = resolution-digits greatest h p in
        let tops = top-order (resolution h) i v m in
        let held = held-order i first.in_bins in
        let order = first-order h.counts (rank q h.total) i (bin_or_last h v) first in
        let ranks = rank-within q h.total c pos one n-pos in
        rw (eqb-other q.num 0 (λ z. omega (arith, z)), share)
        (λ le. ranks.0 (order.0 (held.0 (tops.0 le))), λ le. tops.1 (held.1 (order.1 (ranks.1 le))))
