-- The greatest of intervals so far.
use Rattle.std.proofs.Common.{◌≡◌, ◌≤◌, ◌<◌, ◌↔◌, ℕ, ◌+◌, List, length, take, take_all, get_or, subst, arith}
use Rattle.std.proofs.lemmas.List.Elements.{All-nil}
use Rattle.hdr_logs.specs.Scales.{IsGreatest}
use Rattle.hdr_logs.specs.declared.stored.StoredInterval.{StoredInterval}
use Rattle.hdr_logs.proofs.Parts.{all_so_far}

module _ (of : StoredInterval → ℕ) (all : List StoredInterval) where
  -- none so far
  pub greatest_none : IsGreatest of (take 0 all) 0
  greatest_none = λ high. (λ le. All-nil (λ s. of s ≤ high), λ every. omega arith)

  -- one more
  pub greatest_more : (i greatest next : ℕ) (item : StoredInterval) → i < length all → item ≡ get_or all i item → IsGreatest of (take i all) greatest
      → ((high : ℕ) → (next ≤ high) ↔ ((greatest ≤ high) × (of item ≤ high))) → IsGreatest of (take (i + 1) all) next
  greatest_more i greatest next item inside is so_far one = λ high. all_so_far (λ s. of s ≤ high) all i item inside is (so_far high) (one high)

  -- all of them
  pub greatest_all : (i greatest : ℕ) → length all ≤ i → IsGreatest of (take i all) greatest → IsGreatest of all greatest
  greatest_all i greatest end so_far = subst (λ l. IsGreatest of l greatest) (take_all i all (omega (arith, end))) so_far
