-- Where a block lies in a list, over plain variables: proofs of goals about bounds, in place of a
-- search.
use Rattle.std.proofs.Common.{◌≡◌, ℕ, ◌+◌, ◌-◌, ◌*◌, ◌^◌, ◌<◌, ◌≤◌, List, length, take, drop, map, max, replicate, sym, ap, ◌∙◌, arith}
use Rattle.std.proofs.lemmas.List.{length-map, length-take, length-drop}
use Rattle.std.proofs.Math.Nat.{mul-le-mul_left}
use Rattle.hdr_base.specs.Classes.{most_bins}
use Rattle.hdr_counts.specs.Blocks.{AreSums}
use Rattle.hdr_counts.proofs.BlocksSums.{block_past}

-- a bound of one list is that of another that is as long
pub le_as : (k m n : ℕ) → k ≤ m → n ≡ m → k ≤ n
le_as k m n le same = omega arith

pub lt_as : (k m n : ℕ) → k < m → n ≡ m → k < n
lt_as k m n lt same = omega arith

pub le_more : (a b : ℕ) → a ≤ a + b
le_more a b = omega arith

pub block-within : {X : Type 0} (f : X → ℕ) (xs : List X) (b k : ℕ) (ss : List ℕ) → AreSums b (map f xs) ss → k < length ss → k * b + b ≤ length xs
block-within f xs b k ss h lt = omega (arith, block_past b k (length ss) lt, h.whole, length-map xs f)

pub block-begins : {X : Type 0} (f : X → ℕ) (xs : List X) (b k : ℕ) (ss : List ℕ) → AreSums b (map f xs) ss → k < length ss → k * b ≤ length xs
block-begins f xs b k ss h lt = omega (arith, block-within f xs b k ss h lt)

-- so its indices fit 64 bits
pub block-begin-fits : {X : Type 0} (f : X → ℕ) (xs : List X) (b k : ℕ) (ss : List ℕ) → AreSums b (map f xs) ss → k < length ss → k * b < 2 ^ 64
block-begin-fits f xs b k ss h lt = omega (arith, block-within f xs b k ss h lt, h.few, length-map xs f)

pub block-end-fits : {X : Type 0} (f : X → ℕ) (xs : List X) (b k : ℕ) (ss : List ℕ) → AreSums b (map f xs) ss → k < length ss → k * b + b < 2 ^ 64
block-end-fits f xs b k ss h lt = omega (arith, block-within f xs b k ss h lt, h.few, length-map xs f)

-- so do the indices of its sum
pub sum-offset-fits : (b k : ℕ) (ns ss : List ℕ) → AreSums b ns ss → k < length ss → k * 16 < 2 ^ 64
sum-offset-fits b k ns ss h lt =
    let some : length ss * 1 ≤ length ss * b = mul-le-mul_left (length ss) h.some in
    omega (arith, some, h.whole, h.few)

-- a part has no more elements than the list
pub part-few : {X : Type 0} (f : X → ℕ) (xs l : List X) (b a w : ℕ) (ss : List ℕ) → AreSums b (map f xs) ss → length l ≡ length xs → length (take w (drop a l)) ≤ most_bins
part-few f xs l b a w ss h same = rw (length-take, length-drop) (omega (arith, h.few, length-map xs f))

-- parts that both lists have are as long
pub parts-same : {X Y : Type 0} (xs : List X) (ys : List Y) (a w : ℕ) → a + w ≤ length xs → a + w ≤ length ys → length (take w (drop a xs)) ≡ length (take w (drop a ys))
parts-same xs ys a w first second = omega (arith, length-take w (drop a xs), length-take w (drop a ys), length-drop a xs, length-drop a ys, first, second)

-- an index in a block is one of the few
pub block-place-few : {X : Type 0} (f : X → ℕ) (xs : List X) (b k a w i : ℕ) (ss : List ℕ) → AreSums b (map f xs) ss → k < length ss → a + w ≡ k * b + b → i < length (take w (drop a xs)) → a + i < most_bins
block-place-few f xs b k a w i ss h lt end inside =
    omega (arith, block-within f xs b k ss h lt, h.few, length-map xs f, length-take w (drop a xs))

pub below-64 : (n : ℕ) → n < most_bins → n < 2 ^ 64
below-64 n few = omega arith

-- the end of a part that begins inside the block
pub part-end : (a e : ℕ) → a ≤ e → a + (e - a) ≡ e
part-end a e le = omega arith

-- the indices are counted from the last block on
pub back-lt : (n p : ℕ) → p < n → n - 1 - p < n
back-lt n p lt = omega arith

pub back-some : (n p : ℕ) → p < n → 1 ≤ n
back-some n p lt = omega arith

pub back-le : (n p : ℕ) → p < n → p ≤ n - 1
back-le n p lt = omega arith

-- a block without index 0
pub max-within : (a b m : ℕ) → 1 ≤ b → m ≡ max a 1 → m ≤ a + b
max-within a b m some is = omega arith

pub some-place : (a m i : ℕ) → m ≡ max a 1 → 0 < m + i
some-place a m i is = omega arith

pub le-both : (k m n : ℕ) → k ≤ m → m ≤ n → k ≤ n
le-both k m n a b = omega arith

-- before the first block nothing is cleared
pub zeros-begin : (b : ℕ) (ns : List ℕ) → take (0 * b) ns ≡ replicate (0 * b) 0
zeros-begin b ns =
    let none : 0 * b ≡ 0 = omega arith in
    ap (λ n. take n ns) none ∙ sym (ap (λ n. replicate n 0) none)

-- the ticks of a sum and then of a block fit
pub look-room : (b k t u : ℕ) (ns ss : List ℕ) → AreSums b ns ss → k < length ss → u ≡ t + k → t ≤ 2 ^ 63 → u < 2 ^ 64 - 1
look-room b k t u ns ss h lt is room =
    let some : length ss * 1 ≤ length ss * b = mul-le-mul_left (length ss) h.some in
    omega (arith, some, h.whole, h.few)

pub looks-room : {X : Type 0} (f : X → ℕ) (xs l : List X) (b k t u v a w : ℕ) (ss : List ℕ) → AreSums b (map f xs) ss → k < length ss → u ≡ t + k → t ≤ 2 ^ 63 → v ≡ u + 1 → length l ≡ length xs
    → v + length (take w (drop a l)) < 2 ^ 64
looks-room f xs l b k t u v a w ss h lt is room one same =
    let some : length ss * 1 ≤ length ss * b = mul-le-mul_left (length ss) h.some in
    omega (arith, some, h.whole, h.few, part-few f xs l b a w ss h same)
