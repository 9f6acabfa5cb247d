-- The first class that reaches a rank is found.
use Rattle.std.proofs.Common.{◌≡◌, ℕ, zero, suc, ◌+◌, ◌-◌, ◌<◌, ◌≤◌, Bool, true, false, cond, leb, List, [], ◌∷◌, length, take, sum, Option, Some, None, MatchOption, refl, ap, ◌∙◌, arith, inl, inr}
use Rattle.std.specs.List.{range_with_len, find}
use Rattle.std.proofs.lemmas.Bool.Decides.{nat_tests}
use Rattle.std.proofs.lemmas.Bool.{cases_lt, cases_eq}
use Rattle.std.proofs.lemmas.List.{take_all}
use Rattle.std.proofs.lemmas.List.Sums.{sum_by-cons}
use Rattle.hdr_base.specs.Fractions.{Ratio}
use Rattle.hdr_base.specs.Classes.{value_of}
use Rattle.hdr_base.proofs.ClassesFiner.{bin-value_of}
use Rattle.hdr_counts.specs.Blocks.{IsFirstToReach}
use Rattle.hdr_model.specs.Plain.{Plain, IsPlain, resolution}
use Rattle.hdr_model.specs.Samples.{StandsFor}
use Rattle.hdr_model.proofs.QuantilesOrder.{FirstReaching}
use Rattle.hdr_model.specs.Quantiles.{rank, ranked_sample, position_of_rank, value_at_bin, value_at_quantile, IsTopNear}
use Rattle.hdr_model.proofs.PlainKept.{resolution-digits}
use Rattle.hdr_model.proofs.RecordingStands.{eqb-other}
use Rattle.hdr_model.proofs.QuantilesValues.{first-one, first-by, rank-pos, value-ranked, value-some}

-- the rank of a quantile whose fields were read
pub rank-read : (q : Ratio) (r num den had total : ℕ) → r ≡ rank (record { num = num; den = den }) had → num ≡ q.num → den ≡ q.den → had ≡ total → r ≡ rank q total
rank-read q r num den had total is n d t = is ∙ ap (λ k. rank (record { num = k; den = den }) had) n ∙ ap (λ k. rank (record { num = q.num; den = k }) had) d ∙ ap (λ k. rank q k) t

-- what a search over a range of numbers finds
found-in-range : (p : ℕ → Bool) (a n : ℕ) → MatchOption (find p (range_with_len a n)) ((k : ℕ) → a ≤ k → k < a + n → p k ≡ false)
    (λ i. (a ≤ i) × (i < a + n) × (p i ≡ true) × ((k : ℕ) → a ≤ k → k < i → p k ≡ false))
found-in-range p a zero = λ k from to. absurd (omega arith)
found-in-range p a (suc n) =
    let rest = range_with_len (a + 1) n in
    let P : Option ℕ → Type 0 = λ o. MatchOption o ((k : ℕ) → a ≤ k → k < a + suc n → p k ≡ false)
    (λ i. (a ≤ i) × (i < a + suc n) × (p i ≡ true) × ((k : ℕ) → a ≤ k → k < i → p k ≡ false)) in
    let step : (b : Bool) → p a ≡ b → P (cond b (Some a) (find p rest)) =
    λ b. elim b as (λ b. p a ≡ b → P (cond b (Some a) (find p rest))) [
      | true ↦ λ e. (omega arith, omega arith, e, λ k from to. absurd (omega arith))
      | false ↦ λ e. later (find p rest) e (found-in-range p (a + 1) n)
    ] in
    step (p a) refl
  where
    later : (o : Option ℕ) → p a ≡ false
        → MatchOption o ((k : ℕ) → a + 1 ≤ k → k < a + 1 + n → p k ≡ false) (λ i. (a + 1 ≤ i) × (i < a + 1 + n) × (p i ≡ true) × ((k : ℕ) → a + 1 ≤ k → k < i → p k ≡ false))
        → MatchOption o ((k : ℕ) → a ≤ k → k < a + suc n → p k ≡ false) (λ i. (a ≤ i) × (i < a + suc n) × (p i ≡ true) × ((k : ℕ) → a ≤ k → k < i → p k ≡ false))
    later None e f = λ k from to. elim (cases_eq k a) [ inl same ↦ ap p same ∙ e | inr other ↦ f k (omega arith) (omega arith) ]
    later (Some i) e f =
        (omega (arith, f.0), omega (arith, f.1), f.2, λ k from to. elim (cases_eq k a) [ inl same ↦ ap p same ∙ e | inr other ↦ f.3 k (omega arith) to ])

-- the first class that reaches a rank of at least 1, and that none does
pub position_of_rank-found : (counts : List ℕ) (r : ℕ) → 0 < r → MatchOption (position_of_rank counts r) (sum counts < r) (FirstReaching counts r)
unfolding position_of_rank
position_of_rank-found counts r pos =
    let p : ℕ → Bool = λ i. leb r (sum (take (i + 1) counts)) in
    by_case (find p (range_with_len 0 (length counts))) (found-in-range p 0 (length counts))
  where
    by_case : (o : Option ℕ)
        → MatchOption o ((k : ℕ) → 0 ≤ k → k < 0 + length counts → leb r (sum (take (k + 1) counts)) ≡ false)
        (λ i. (0 ≤ i) × (i < 0 + length counts) × (leb r (sum (take (i + 1) counts)) ≡ true) × ((k : ℕ) → 0 ≤ k → k < i → leb r (sum (take (k + 1) counts)) ≡ false))
        → MatchOption o (sum counts < r) (FirstReaching counts r)
    by_case None f = elim (cases_lt 0 (length counts)) [
      | inl some ↦ (
          let last = length counts - 1 in
          let less : sum (take (last + 1) counts) < r = (let e = f last (omega arith) (omega arith) in grind (arith, nat_tests)) in
          let whole : take (last + 1) counts ≡ counts = take_all (last + 1) counts (omega arith) in
          omega (arith, less, ap sum whole)
          )
      | inr none ↦ (let whole : take 0 counts ≡ counts = take_all 0 counts none in omega (arith, ap sum whole))
    ]
    by_case (Some i) f = record {
      in_bins = omega (arith, f.1);
      reached = (let e = f.2 in grind (arith, nat_tests));
      before = elim (cases_lt 0 i) [
        | inl some ↦ (
            let k = i - 1 in
            let e = f.3 k (omega arith) (omega arith) in
            let less : sum (take (k + 1) counts) < r = grind (arith, nat_tests) in
            let same : k + 1 ≡ i = omega arith in
            omega (arith, less, ap (λ j. sum (take j counts)) same)
            )
        | inr none ↦ (let first : i ≡ 0 = omega arith in omega (arith, ap (λ j. sum (take j counts)) first))
      ];
    }

-- what a search by blocks finds
pub first-class : (counts : List ℕ) (r : ℕ) → 0 < r → MatchOption (position_of_rank counts r) (sum counts < r) (IsFirstToReach counts r)
first-class counts r pos = by_case (position_of_rank counts r) (position_of_rank-found counts r pos)
  where
    by_case : (o : Option ℕ) → MatchOption o (sum counts < r) (FirstReaching counts r) → MatchOption o (sum counts < r) (IsFirstToReach counts r)
    by_case None none = none
    by_case (Some i) first = (first.in_bins, first.before, first.reached)

pub found-by-blocks : (counts : List ℕ) (r : ℕ) (place : Option ℕ) → 0 < r → MatchOption place (sum counts < r) (IsFirstToReach counts r) → place ≡ position_of_rank counts r
found-by-blocks counts r place pos found = both place (position_of_rank counts r) found (position_of_rank-found counts r pos)
  where
    whole-below : (i : ℕ) → sum counts < r → FirstReaching counts r i → ⊥
    whole-below i none first =
        let e : take (length counts) counts ≡ counts = take_all (length counts) counts (omega arith) in
        omega (arith, first.reached, none, sums-le (i + 1) (omega (arith, first.in_bins)), ap sum e)
      where
        sums-le : (j : ℕ) → j ≤ length counts → sum (take j counts) ≤ sum (take (length counts) counts)
        sums-le j le = front counts j le
          where
            front : (xs : List ℕ) (j : ℕ) → j ≤ length xs → sum (take j xs) ≤ sum (take (length xs) xs)
            front xs zero le = omega arith
            front [] (suc j) le = absurd (omega arith)
            front (x ∷ xs) (suc j) le = omega (arith, front xs j (omega arith), sum_by-cons (λ n. n) x (take j xs), sum_by-cons (λ n. n) x (take (length xs) xs))

    both : (o p : Option ℕ) → MatchOption o (sum counts < r) (IsFirstToReach counts r) → MatchOption p (sum counts < r) (FirstReaching counts r) → o ≡ p
    both None None f g = refl
    both None (Some i) f g = absurd (whole-below i f g)
    both (Some i) None f g = absurd (whole-below i g (first-by counts r i f))
    both (Some i) (Some j) f g = ap Some (first-one counts r i j (first-by counts r i f) g)

-- the value at a quantile of a histogram that stands for samples is near the ranked sample
pub quantile-ranked : (greatest : ℕ) (h : Plain) (q : Ratio) (S : List ℕ) → IsPlain greatest h → 0 < q.den → StandsFor h S → 0 < length S → 0 < q.num → IsTopNear h (ranked_sample q S) (value_at_quantile h q)
unfolding value_at_quantile
quantile-ranked greatest h q S p pos stands some share = go (position_of_rank h.counts (rank q h.total)) (position_of_rank-found h.counts (rank q h.total) (rank-pos q h.total))
  where
    go : (o : Option ℕ) → MatchOption o (sum h.counts < rank q h.total) (FirstReaching h.counts (rank q h.total)) → IsTopNear h (ranked_sample q S) (value_at_bin (resolution h) q.num o)
    go None none = absurd (value-some greatest h q p pos S stands some none)
    go (Some i) first =
        rw (eqb-other q.num 0 (λ e. omega arith))
        (value-ranked greatest h q p pos S i (value_of (resolution h) i) stands some first (bin-value_of (resolution h) i (resolution-digits greatest h p)))
