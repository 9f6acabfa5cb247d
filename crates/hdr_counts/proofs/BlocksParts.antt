-- The sums of the two parts of a block, up to an index and after it.
use Rattle.std.proofs.Common.{◌≡◌, ℕ, ◌+◌, ◌-◌, ◌*◌, ◌<◌, ◌≤◌, List, length, get_or, take, drop, map, sum, refl, ap, arith}
use Rattle.std.proofs.lemmas.List.{get_or_read}
use Rattle.hdr_counts.specs.Blocks.{Blocks, section_of, sum_below, AreSums}
use Rattle.hdr_counts.proofs.BlocksSums.{sum_below-le, part_whole, blocks_more}

module _ {X : Type 0} (f : X → ℕ) (xs l : List X) (ss : List ℕ) (b k i : ℕ) (sums : AreSums b (map f xs) ss) (same : l ≡ xs) (from : k * b ≤ i) (before : i < (k + 1) * b) (within : (k + 1) * b ≤ length (map f xs)) where
  pub block-inside : k < length ss
  block-inside = omega (arith, blocks_more b (k + 1) (length ss) sums.some (omega (arith, within, sums.whole)))

  -- the sum of the block
  whole-is : sum_below (map f xs) (k * b) + get_or ss k 0 ≡ sum_below (map f xs) ((k + 1) * b)
  whole-is = sums.each k block-inside

  pub front-sum : sum_below (map f xs) (k * b) + sum (map f (take (i + 1 - k * b) (drop (k * b) l))) ≡ sum_below (map f xs) (i + 1)
  front-sum =
      let w : ℕ = i + 1 - k * b in
      let end : k * b + (i + 1 - k * b) ≡ i + 1 = omega (arith, from) in
      let end_is = ap (sum_below (map f xs)) end in
      let part = ap (λ ys. sum (map f (take (i + 1 - k * b) (drop (k * b) ys)))) same in
      omega (arith, part_whole f xs (k * b) (i + 1 - k * b), end_is, part)

  pub front-le : sum (map f (take (i + 1 - k * b) (drop (k * b) l))) ≤ get_or ss k 0
  front-le = omega (arith, front-sum, whole-is, sum_below-le (map f xs) (i + 1) ((k + 1) * b) (omega (arith, before)))

  pub back-sum : sum_below (map f xs) (i + 1) + sum (map f (take (k * b + b - (i + 1)) (drop (i + 1) l))) ≡ sum_below (map f xs) (k * b) + get_or ss k 0
  back-sum =
      let end : i + 1 + (k * b + b - (i + 1)) ≡ (k + 1) * b = omega (arith, before) in
      let end_is = ap (sum_below (map f xs)) end in
      let part = ap (λ ys. sum (map f (take (k * b + b - (i + 1)) (drop (i + 1) ys)))) same in
      omega (arith, part_whole f xs (i + 1) (k * b + b - (i + 1)), end_is, part, whole-is)

  pub back-le : sum (map f (take (k * b + b - (i + 1)) (drop (i + 1) l))) ≤ get_or ss k 0
  back-le = omega (arith, back-sum, sum_below-le (map f xs) (k * b) (i + 1) (omega (arith, from)))

-- the same of blocks as they are seen, if the sum of a section was read
module _ {X : Type 0} (f : X → ℕ) (v : Blocks) (xs l : List X) (ss : List ℕ) (b k i whole : ℕ) (b_is : b ≡ section_of v.block (length v.numbers)) (ns_is : map f xs ≡ v.numbers) (sums : AreSums b (map f xs) ss) (same : l ≡ xs) (read : whole ≡ get_or ss k whole)
    (from : k * section_of v.block (length v.numbers) ≤ i) (before : i < (k + 1) * section_of v.block (length v.numbers)) (within : (k + 1) * section_of v.block (length v.numbers) ≤ length v.numbers) where
  its-from : k * b ≤ i
  its-from = rw b_is from

  its-before : i < (k + 1) * b
  its-before = rw b_is before

  its-within : (k + 1) * b ≤ length (map f xs)
  its-within = rw (b_is, ns_is) within

  read-is : whole ≡ get_or ss k 0
  read-is = get_or_read ss k whole (block-inside f xs xs ss b k i sums refl its-from its-before its-within) read 0

  pub front-within : sum (map f (take (i + 1 - k * b) (drop (k * b) l))) ≤ whole
  front-within = omega (arith, front-le f xs l ss b k i sums same its-from its-before its-within, read-is)

  pub front-is : (part : ℕ) → part ≡ sum (map f (take (i + 1 - k * b) (drop (k * b) l))) → sum_below v.numbers (k * section_of v.block (length v.numbers)) + part ≡ sum_below v.numbers (i + 1)
  front-is part is = rw (← b_is, ← ns_is) (omega (arith, front-sum f xs l ss b k i sums same its-from its-before its-within, is))

  pub back-within : sum (map f (take (k * b + b - (i + 1)) (drop (i + 1) l))) ≤ whole
  back-within = omega (arith, back-le f xs l ss b k i sums same its-from its-before its-within, read-is)

  pub back-is : (part : ℕ) → part ≡ sum (map f (take (k * b + b - (i + 1)) (drop (i + 1) l))) → sum_below v.numbers (k * section_of v.block (length v.numbers)) + (whole - part) ≡ sum_below v.numbers (i + 1)
  back-is part is = rw (← b_is, ← ns_is) (omega (arith, back-sum f xs l ss b k i sums same its-from its-before its-within, back-within, read-is, is))
