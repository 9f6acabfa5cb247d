-- The ends of an interval.
use Rattle.std.proofs.Common.{◌≡◌, ℕ, ◌≤◌, List, Option, Some, min, arith, inl, inr, refl, sym, subst, ap, ◌∙◌}
use Rattle.std.proofs.lemmas.Bool.{cases_lt}
use Rattle.std.proofs.lemmas.List.Sums.{sum-map}
use Rattle.hdr_base.specs.Fractions.{Ratio}
use Rattle.hdr_model.specs.Plain.{Plain}
use Rattle.hdr_compare.specs.EndsOf.{IsFirstOfInterval, IsLastOfInterval}
use Rattle.hdr_compare.specs.Intervals.{CountsAs, IsBasis, IsCountOf, IsHighEnd, IsLowEnd, before, samples_of}
use Rattle.hdr_compare.specs.Counted.{IsCounted}
use Rattle.hdr_compare.specs.declared.ends.Basis.{Basis}
use Rattle.hdr_compare.specs.declared.batch.Batch.{Batch}
use Rattle.hdr_compare.specs.declared.counting.Counted.{Counted}
use Rattle.hdr_compare.specs.declared.tiers.Tier.{Tier}

pub low_end_is : (hs : List Plain) (low : ℕ) (under : Counted) (basis : Basis) → IsFirstOfInterval basis under.count → IsCounted basis.tier hs (before low) under
    → basis.independent ≤ under.independent → basis.samples ≡ samples_of hs → IsLowEnd hs basis.quantile basis.tier basis.independent low
low_end_is hs low under basis first counted most samples =
    record {
      under = under;
      counted = counted;
      most = most;
      basis = basis;
      is_basis = record { samples = samples; independent = refl; quantile = refl; tier_is = refl };
      first = first;
    }

pub high_end_is : (hs : List Plain) (high : ℕ) (upto : Counted) (basis : Basis) → IsLastOfInterval basis upto.count → IsCounted basis.tier hs (Some high) upto
    → basis.independent ≤ upto.independent → basis.samples ≡ samples_of hs → IsHighEnd hs basis.quantile basis.tier basis.independent high
high_end_is hs high upto basis last counted most samples =
    record {
      upto = upto;
      counted = counted;
      most = most;
      basis = basis;
      is_basis = record { samples = samples; independent = refl; quantile = refl; tier_is = refl };
      last = last;
    }

-- what is counted up to a value is one number
pub same_count : (tier : Tier) (hs : List Plain) (v : Option ℕ) (c d : Counted) → IsCounted tier hs v c → IsCounted tier hs v d → c.count ≡ d.count
same_count tier hs v c d one other =
    let first = sum-map (λ (b : Batch). b.count) one.batches in
    let second = sum-map (λ (b : Batch). b.count) other.batches in
    let counts = one.are.counts in
    let others = other.are.counts in
    cc (first, second, counts, others, one.count, other.count)

-- and the basis of an interval is one
pub same_basis : (hs : List Plain) (q : Ratio) (tier : Tier) (e : ℕ) (a b : Basis) → IsBasis hs q tier e a → IsBasis hs q tier e b → a ≡ b
same_basis hs q tier e a b one other =
    let basis : ℕ → ℕ → Ratio → Tier → Basis = λ n k p t. record { samples = n; independent = k; quantile = p; tier = t } in
    ap (λ (n : ℕ). basis n a.independent a.quantile a.tier) (one.samples ∙ sym other.samples)
    ∙ ap (λ (k : ℕ). basis b.samples k a.quantile a.tier) (one.independent ∙ sym other.independent)
    ∙ ap (λ (p : Ratio). basis b.samples b.independent p a.tier) (one.quantile ∙ sym other.quantile)
    ∙ ap (λ (t : Tier). basis b.samples b.independent b.quantile t) (one.tier_is ∙ sym other.tier_is)

-- so it begins after as many samples, or ends with them, as soon as a value is its end
pub begins_at : (hs : List Plain) (q : Ratio) (tier : Tier) (e low : ℕ) (under : Counted) (basis : Basis) → IsCounted tier hs (before low) under
    → IsBasis hs q tier e basis → IsLowEnd hs q tier e low → IsFirstOfInterval basis under.count
begins_at hs q tier e low under basis counted is end =
    let P : ℕ → Type 0 = IsFirstOfInterval basis in
    let Q : Basis → Type 0 = λ b. IsFirstOfInterval b end.under.count in
    subst P (same_count tier hs (before low) end.under under end.counted counted)
    (subst Q (same_basis hs q tier e end.basis basis end.is_basis is) end.first)

pub ends_at : (hs : List Plain) (q : Ratio) (tier : Tier) (e high : ℕ) (upto : Counted) (basis : Basis) → IsCounted tier hs (Some high) upto
    → IsBasis hs q tier e basis → IsHighEnd hs q tier e high → IsLastOfInterval basis upto.count
ends_at hs q tier e high upto basis counted is end =
    let P : ℕ → Type 0 = IsLastOfInterval basis in
    let Q : Basis → Type 0 = λ b. IsLastOfInterval b end.upto.count in
    subst P (same_count tier hs (Some high) end.upto upto end.counted counted)
    (subst Q (same_basis hs q tier e end.basis basis end.is_basis is) end.last)

-- the fewer of two numbers of independent samples is one of them
pub least_count : (hs : List Plain) (tier : Tier) (v : Option ℕ) (c : Counted) (n e : ℕ) → IsCounted tier hs v c → CountsAs hs tier n e
    → CountsAs hs tier n (min e c.independent)
least_count hs tier v c n e counted before =
    elim (cases_lt e c.independent) [
      | inl lt ↦ (
          let same : min e c.independent ≡ e = omega (arith, lt) in
          subst (λ k. CountsAs hs tier n k) (sym same) before)
      | inr ge ↦ (
          let same : min e c.independent ≡ c.independent = omega (arith, ge) in
          inr (record { value = v; upto = c; counted = counted; is = same }))
    ]

pub least_count_of : (hs : List Plain) (tier : Tier) (v w : Option ℕ) (c d : Counted) → IsCounted tier hs v c → IsCounted tier hs w d
    → IsCountOf hs tier (min c.independent d.independent)
least_count_of hs tier v w c d counted other =
    elim (cases_lt c.independent d.independent) [
      | inl lt ↦ (
          let same : min c.independent d.independent ≡ c.independent = omega (arith, lt) in
          record { value = v; upto = c; counted = counted; is = same })
      | inr ge ↦ (
          let same : min c.independent d.independent ≡ d.independent = omega (arith, ge) in
          record { value = w; upto = d; counted = other; is = same })
    ]

pub counts_after : (hs : List Plain) (tier : Tier) (n m e : ℕ) → CountsAs hs tier n m → CountsAs hs tier m e → CountsAs hs tier n e
counts_after hs tier n m e before counts =
    elim counts [
      | inl same ↦ subst (CountsAs hs tier n) (sym same) before
      | inr own ↦ inr own
    ]

pub counts_by : (hs : List Plain) (tier : Tier) (n e : ℕ) → IsCountOf hs tier n → CountsAs hs tier n e → IsCountOf hs tier e
counts_by hs tier n e count counts =
    elim counts [
      | inl same ↦ subst (IsCountOf hs tier) (sym same) count
      | inr own ↦ own
    ]
