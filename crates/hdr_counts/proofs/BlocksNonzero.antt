-- The indices of the first and the last nonzero number, block by block.
use Rattle.std.proofs.Common.{◌≡◌, ℕ, ◌+◌, ◌-◌, ◌*◌, ◌/◌, ◌<◌, ◌≤◌, List, length, get_or, take, drop, map, replicate, sum, ap, sym, subst, ◌∙◌, arith, inl, inr}
use Rattle.std.proofs.lemmas.Bool.{cases_lt}
use Rattle.std.proofs.lemmas.List.{get_or-take, get_or-drop, get_or-replicate, get_or_past, length-map, length-replicate, length-take}
use Rattle.hdr_counts.specs.Blocks.{sum_below, AreSums, AreZeros, IsLastNonzero, IsFirstNonzero}
use Rattle.hdr_counts.proofs.BlocksSums.{sum_below-le, part_whole, zeros-of, block_in, block_of, block_past}
use Rattle.hdr_counts.proofs.BlocksCapped.{map-middle}

get-zeros : (n i : ℕ) → get_or {A = ℕ} (replicate n 0) i 0 ≡ 0
get-zeros n i =
    elim (cases_lt i n) [ inl lt ↦ get_or-replicate n i 0 0 lt | inr ge ↦ get_or_past (replicate n 0) i 0 (let le : length (replicate {A = ℕ} n 0) ≤ i = omega (arith, length-replicate {A = ℕ} n 0) in le) ]

-- numbers of sum 0 are zeros
pub none-above : {X : Type 0} (f : X → ℕ) (xs : List X) → sum (map f xs) ≡ 0 → AreZeros (map f xs)
none-above f xs none i = ap (λ l. get_or l i 0) (zeros-of f xs none) ∙ get-zeros (length xs) i

-- a number of a part, by its index in the list
part-get : {X : Type 0} (f : X → ℕ) (xs : List X) (a w i : ℕ) → i < w → get_or (map f (take w (drop a xs))) i 0 ≡ get_or (map f xs) (a + i) 0
part-get f xs a w i lt = ap (λ l. get_or l i 0) (map-middle f xs a w) ∙ get_or-take w (drop a (map f xs)) i 0 lt ∙ get_or-drop a (map f xs) i 0

whole-get : {X : Type 0} (f : X → ℕ) (xs : List X) (a w j : ℕ) → a ≤ j → j < a + w → get_or (map f xs) j 0 ≡ get_or (map f (take w (drop a xs))) (j - a) 0
whole-get f xs a w j ge lt =
    let at : a + (j - a) ≡ j = omega arith in
    let e = part-get f xs a w (j - a) (omega arith) in
    omega (arith, e, ap (λ i. get_or (map f xs) i 0) at)

-- the sum of a part of a block is at most the block's
pub part-at-most : {X : Type 0} (f : X → ℕ) (xs : List X) (ss : List ℕ) (b k a w : ℕ) → AreSums b (map f xs) ss → k < length ss → k * b ≤ a → a + w ≡ k * b + b → sum (map f (take w (drop a xs))) ≤ get_or ss k 0
part-at-most f xs ss b k a w h lt from to =
    let end : a + w ≡ (k + 1) * b = omega arith in
    omega (arith, h.each k lt, part_whole f xs a w, ap (sum_below (map f xs)) end, sum_below-le (map f xs) (k * b) a from)

-- zeros from an index on
abbrev pub ZerosBehind : List ℕ → ℕ → Type 0
ZerosBehind ns a = (j : ℕ) → a ≤ j → get_or ns j 0 ≡ 0

-- a block of zeros before zeros
pub zeros-before : {X : Type 0} (f : X → ℕ) (xs : List X) (a w e : ℕ) → e ≡ a + w → AreZeros (map f (take w (drop a xs))) → ZerosBehind (map f xs) e → ZerosBehind (map f xs) a
zeros-before f xs a w e end zeros behind j ge =
    elim (cases_lt j e) [
      | inl lt ↦ whole-get f xs a w j ge (omega arith) ∙ zeros (j - a)
      | inr past ↦ behind j past
    ]

-- the last nonzero number of a block before zeros
pub last-before : {X : Type 0} (f : X → ℕ) (xs : List X) (a w e i : ℕ) → e ≡ a + w → i < w → IsLastNonzero (map f (take w (drop a xs))) i → ZerosBehind (map f xs) e → IsLastNonzero (map f xs) (a + i)
last-before f xs a w e i end lt last behind = (
  omega (arith, last.0, part-get f xs a w i lt),
  λ j more. elim (cases_lt j e) [
    | inl inside ↦ whole-get f xs a w j (omega arith) (omega arith) ∙ last.1 (j - a) (omega arith)
    | inr past ↦ behind j past
  ],
)

-- zeros from one index up to another
abbrev pub ZerosBetween : List ℕ → ℕ → ℕ → Type 0
ZerosBetween ns a e = (j : ℕ) → a ≤ j → j < e → get_or ns j 0 ≡ 0

pub zeros-join : (ns : List ℕ) (a b c : ℕ) → ZerosBetween ns a b → ZerosBetween ns b c → ZerosBetween ns a c
zeros-join ns a b c first second j ge lt = elim (cases_lt j b) [ inl less ↦ first j ge less | inr more ↦ second j more lt ]

-- a part of zeros, and a part up to its first number above 0
pub part-none : {X : Type 0} (f : X → ℕ) (xs l : List X) (a e : ℕ) → l ≡ xs → AreZeros (map f (take (e - a) (drop a l))) → ZerosBetween (map f xs) a e
part-none f xs l a e same zeros j ge less = whole-get f xs a (e - a) j ge (omega arith) ∙ subst (λ ys. AreZeros (map f (take (e - a) (drop a ys)))) same zeros (j - a)

pub part-some : {X : Type 0} (f : X → ℕ) (xs l : List X) (a e p : ℕ) → l ≡ xs → p < length (take (e - a) (drop a l)) → IsFirstNonzero (map f (take (e - a) (drop a l))) p
    → (0 < get_or (map f xs) (a + p) 0) × ZerosBetween (map f xs) a (a + p)
part-some f xs l a e p same short first =
    let w : p < e - a = omega (arith, short, length-take (e - a) (drop a l)) in
    let own = subst (λ ys. IsFirstNonzero (map f (take (e - a) (drop a ys))) p) same first in
    (omega (arith, own.0, part-get f xs a (e - a) p w), λ j ge less. whole-get f xs a (e - a) j ge (omega (arith, less, w)) ∙ own.1 (j - a) (omega (arith, ge, less)))

-- what is left of block k from index i on, up to its end e
pub record BlockRest {X : Type 0} (f : X → ℕ) (xs : List X) (ss : List ℕ) (i k e : ℕ) : Type 0 where
  pub number : k < length ss
  pub inside : i < e
  pub within : e ≤ length xs
  pub least : (l : List X) → l ≡ xs → sum (map f (take (e - i) (drop i l))) ≤ get_or ss k 0
  pub none : (l : List X) → l ≡ xs → AreZeros (map f (take (e - i) (drop i l))) → ZerosBetween (map f xs) i e
  pub some : (l : List X) (p : ℕ) → l ≡ xs → p < length (take (e - i) (drop i l)) → IsFirstNonzero (map f (take (e - i) (drop i l))) p → (i + p < length xs) × (0 < get_or (map f xs) (i + p) 0) × ZerosBetween (map f xs) i (i + p)

pub BlockRest-of : {X : Type 0} (f : X → ℕ) (xs : List X) (ss : List ℕ) (b i k e : ℕ) → AreSums b (map f xs) ss → i < length xs → k ≡ i / b → e ≡ (k + 1) * b → BlockRest f xs ss i k e
BlockRest-of f xs ss b i k e h lt at end =
    let number : k < length ss = rw at (block_in b i (length ss) h.some (omega (arith, lt, h.whole, length-map xs f))) in
    let own : (k * b ≤ i) × (i < (k + 1) * b) = rw at (block_of b i h.some) in
    let within : (k + 1) * b ≤ length ss * b = block_past b k (length ss) number in
    let inside : i < e = omega (arith, own.1, end) in
    let far : i + (e - i) ≡ k * b + b = omega (arith, inside, end) in
    let to : i + (e - i) ≡ e = omega (arith, inside) in
    record {
      number = number;
      inside = inside;
      within = omega (arith, end, within, h.whole, length-map xs f);
      least = λ l same. subst (λ ys. sum (map f (take (e - i) (drop i ys))) ≤ get_or ss k 0) (sym same) (part-at-most f xs ss b k i (e - i) h number own.0 far);
      none = λ l same zeros. part-none f xs l i e same zeros;
      some = λ l p same short first.
          let own = part-some f xs l i e p same short first in
          (omega (arith, short, length-take (e - i) (drop i l), within, end, h.whole, length-map xs f), own.0, own.1);
    }
