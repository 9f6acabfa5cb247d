-- Numbers that are counted at bounds.
use Rattle.std.proofs.Common.{◌≡◌, ℕ, zero, suc, ◌+◌, ◌%◌, ◌^◌, ◌<◌, ◌≤◌, Bool, true, false, List, [], ◌∷◌, ◌++◌, length, map, take, drop, set, get_or, not, Some, None, refl, ap, arith, inl, inr}
use Rattle.std.specs.Prelude.{nat_lt, nat_le, ◌==◌, if◌then◌else◌}
use Rattle.std.specs.List.{position, position_or_len}
use Rattle.std.proofs.lemmas.List.Quantifiers.{position-Some}
use Rattle.std.proofs.lemmas.Bool.{cases_lt}
use Rattle.std.proofs.lemmas.Bool.Decides.{nat_tests}
use Rattle.std.proofs.lemmas.List.Sums.{prefix_len_passes}
use Rattle.std.proofs.Math.Nat.{mod-eq_of_lt}
use Rattle.std.proofs.lemmas.List.{get_or_default}
use Rattle.std.proofs.lemmas.List.Edits.{map_over_more}
use Rattle.hdr_input.specs.declared.bound_counts.BoundCount.{BoundCount}
use Rattle.hdr_input.specs.Counted.{counted, with_numbers}
use Rattle.hdr_input.specs.Bounds.{ends_of, Has, AreAscending, counted_to, missing_to}

-- Lists of ends

pub ends-counted : (q : BoundCount → Bool) (k u : ℕ) (counts : List BoundCount) → ends_of (counted q k u counts) ≡ ends_of counts
ends-counted q k u [] = refl
ends-counted q k u (c ∷ counts) = elim (q c) as (λ b. ends_of (if b then with_numbers k u c ∷ counts else c ∷ counted q k u counts) ≡ ends_of (c ∷ counts)) [
  | true ↦ refl
  | false ↦ ap (λ es. c.end ∷ es) (ends-counted q k u counts)
]

-- the missing samples stay
pub missing-counted : (q : BoundCount → Bool) (k u e : ℕ) (counts : List BoundCount) → missing_to e (counted q k u counts) ≡ missing_to e counts
missing-counted q k u e [] = refl
missing-counted q k u e (c ∷ counts) = elim (q c) as (λ b. missing_to e (if b then with_numbers k u c ∷ counts else c ∷ counted q k u counts) ≡ missing_to e (c ∷ counts)) [
  | true ↦ refl
  | false ↦ ap (λ m. if c.end == e then c.missing else m) (missing-counted q k u e counts)
]

-- each count may still grow by k
abbrev MayGrow : ℕ → List BoundCount → Type 0
MayGrow k [] = Unit {0}
MayGrow k (c ∷ counts) = (c.count + k < 2 ^ 64) × MayGrow k counts

-- numbers that are not before an end aren't counted there
none-before : (p k u e : ℕ) (counts : List BoundCount) → e ≤ p → counted_to e (counted (λ c. nat_lt p c.end) k u counts) ≡ counted_to e counts
none-before p k u e [] le = refl
none-before p k u e (c ∷ counts) le =
    elim (cases_lt p c.end) [
      | inl lt ↦ (
          let test : nat_lt p c.end ≡ true = grind (arith, nat_tests) in
          let past : nat_le c.end e ≡ false = grind (arith, nat_tests) in
          rw (test, past) refl
          )
      | inr ge ↦ (
          let test : nat_lt p c.end ≡ false = grind (arith, nat_tests) in
          let rest = none-before p k u e counts le in
          rw test (ap (λ n. (if nat_le c.end e then c.count else 0) + n) rest)
          )
    ]

k-more : (k n m : ℕ) → n + k < 2 ^ 64 → (n + k) % 2 ^ 64 + m ≡ n + m + k
k-more k n m lt =
    let same : (n + k) % 2 ^ 64 ≡ n + k = mod-eq_of_lt lt in
    omega (arith, same)

last : (k n m p e : ℕ) → nat_lt p e ≡ false → n ≡ m → n ≡ m + (if nat_lt p e then k else 0)
last k n m p e test same = rw test (omega (arith, same))

-- k numbers are counted k times at each end that they are before
pub counted-before : (p k u e : ℕ) (counts : List BoundCount) → AreAscending (ends_of counts) → MayGrow k counts → Has e (ends_of counts)
    → counted_to e (counted (λ c. nat_lt p c.end) k u counts) ≡ counted_to e counts + (if nat_lt p e then k else 0)
counted-before p k u e [] order grow has = absurd has
counted-before p k u e (c ∷ counts) order grow has =
    elim (cases_lt p c.end) [
      | inl lt ↦ (
          let least : c.end ≤ e = elim has [ inl at ↦ omega (arith, at) | inr later ↦ order.0 e later ] in
          let test : nat_lt p c.end ≡ true = grind (arith, nat_tests) in
          let here : nat_le c.end e ≡ true = grind (arith, nat_tests) in
          let before : nat_lt p e ≡ true = grind (arith, nat_tests) in
          rw (test, here, before) (k-more k c.count (counted_to e counts) grow.0)
          )
      | inr ge ↦ (
          let test : nat_lt p c.end ≡ false = grind (arith, nat_tests) in
          elim has [
            | inl at ↦ (
                let past : nat_lt p e ≡ false = grind (arith, nat_tests) in
                let rest = none-before p k u e counts (omega (arith, at, ge)) in
                rw test (last k ((if nat_le c.end e then c.count else 0) + counted_to e (counted (λ d. nat_lt p d.end) k u counts)) ((if nat_le c.end e then c.count else 0) + counted_to e counts) p e past
                (ap (λ n. (if nat_le c.end e then c.count else 0) + n) rest))
                )
            | inr later ↦ (
                let rest = counted-before p k u e counts order.1 grow.1 later in
                rw test (omega (arith, rest))
                )
          ]
          )
    ]

-- a count is one of those to its end
pub may-grow : (k n : ℕ) (counts : List BoundCount) → ((e : ℕ) → Has e (ends_of counts) → counted_to e counts ≤ n) → n + k < 2 ^ 64 → MayGrow k counts
may-grow k n [] most lt = tt
may-grow k n (c ∷ counts) most lt =
    let at_end : nat_le c.end c.end ≡ true = grind (arith, nat_tests) in
    let here : c.count + counted_to c.end counts ≤ n = rw at_end at (most c.end (inl refl)) in (
      omega (arith, here),
      may-grow k n counts (λ e has. (let all = most e (inr has) in omega (arith, all))) lt,
    )

-- Searches

not-true : (b : Bool) → not b ≡ true → b ≡ false
not-true true e = cc
not-true false e = refl

-- if there is none that passes first, each one fails
pub position-None : (q : BoundCount → Bool) (counts : List BoundCount) (d : BoundCount) → position q counts ≡ None → (k : ℕ) → k < length counts
    → q (get_or counts k d) ≡ false
position-None q counts d none k lt =
    let n : ℕ = position_or_len q counts in
    elim (cases_lt n (length counts)) [
      | inl l ↦ (
          let test : nat_lt n (length counts) ≡ true = grind (arith, nat_tests) in
          let some : position q counts ≡ Some n = rw test refl in
          cc
          )
      | inr ge ↦ not-true (q (get_or counts k d)) (prefix_len_passes (λ c. not (q c)) counts k d (omega (arith, ge, lt)))
    ]

-- numbers are counted at the first bound that passes
pub counted-at : (q : BoundCount → Bool) (k u : ℕ) (counts : List BoundCount) (i : ℕ) (d : BoundCount) → i < length counts
    → q (get_or counts i d) ≡ true → ((j : ℕ) → j < i → q (get_or counts j d) ≡ false)
    → set counts i (with_numbers k u (get_or counts i d)) ≡ counted q k u counts
counted-at q k u [] i d lt here before = absurd (omega (arith, lt))
counted-at q k u (c ∷ counts) zero d lt here before = rw here refl
counted-at q k u (c ∷ counts) (suc i) d lt here before =
    let first : q c ≡ false = before 0 (omega arith) in
    rw first (ap (λ cs. c ∷ cs) (counted-at q k u counts i d (omega (arith, lt)) here (λ j l. before (suc j) (omega (arith, l)))))

pub counted-none : (q : BoundCount → Bool) (k u : ℕ) (counts : List BoundCount) (d : BoundCount) → ((j : ℕ) → j < length counts → q (get_or counts j d) ≡ false)
    → counts ≡ counted q k u counts
counted-none q k u [] d none = refl
counted-none q k u (c ∷ counts) d none =
    let first : q c ≡ false = none 0 (omega arith) in
    rw first (ap (λ cs. c ∷ cs) (counted-none q k u counts d (λ j l. none (suc j) (omega (arith, l)))))

pub counted_found : (q : BoundCount → Bool) (k u : ℕ) (counts : List BoundCount) (i : ℕ) (d : BoundCount) → position q counts ≡ Some i
    → set counts i (with_numbers k u (get_or counts i d)) ≡ counted q k u counts
counted_found q k u counts i d found =
    let at = position-Some q counts i d found in
    counted-at q k u counts i d at.0 at.1 at.2

pub counted_unfound : (q : BoundCount → Bool) (k u : ℕ) (counts : List BoundCount) (d : BoundCount) → position q counts ≡ None → counts ≡ counted q k u counts
counted_unfound q k u counts d none = counted-none q k u counts d (position-None q counts d none)

-- a loop that replaces each bound
pub map-set : (f : BoundCount → BoundCount) (xs ys : List BoundCount) (i : ℕ) (d r : BoundCount) → i < length xs → i < length ys
    → ys ≡ map f (take i xs) ++ drop i xs → r ≡ f (get_or ys i d) → set ys i r ≡ map f (take (i + 1) xs) ++ drop (i + 1) xs
map-set f xs ys i d r lt within so_far is =
    let same : get_or ys i d ≡ get_or ys i (get_or ys i d) = get_or_default ys i d (get_or ys i d) within in
    rw is (map_over_more f xs ys i (get_or ys i d) lt so_far same)

-- one more bound in a sum of counts
pub counted-more : (e : ℕ) (counts : List BoundCount) (i : ℕ) (d : BoundCount) → i < length counts
    → counted_to e (take (i + 1) counts) ≡ counted_to e (take i counts) + (if nat_le (get_or counts i d).end e then (get_or counts i d).count else 0)
counted-more e [] i d lt = absurd (omega (arith, lt))
counted-more e (c ∷ counts) zero d lt = omega arith
counted-more e (c ∷ counts) (suc i) d lt =
    let rest = counted-more e counts i d (omega (arith, lt)) in
    let next : suc i + 1 ≡ suc (i + 1) = omega arith in
    rw next (omega (arith, rest))
