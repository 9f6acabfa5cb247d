-- A counter that is to be written and the sum of its block, as they were read.
use Rattle.std.proofs.Common.{◌≡◌, ℕ, ◌+◌, ◌-◌, ◌*◌, ◌/◌, ◌^◌, ◌<◌, ◌≤◌, List, length, get_or, map, ap, ◌∙◌, arith}
use Rattle.std.proofs.lemmas.List.{get_or_read, length-map}
use Rattle.hdr_counts.specs.Blocks.{AreSums}
use Rattle.hdr_counts.proofs.BlocksSums.{number-at, block_of, block_in, sum_below-le, sum_below-le-sum, sum-fits, number-le-sum_below}

-- the number of a counter that was read
pub number-read : {X : Type 0} (f : X → ℕ) (xs : List X) (i x : ℕ) (counter : X) → i < length (map f xs) → counter ≡ get_or xs i counter → x ≡ f counter → x ≡ get_or (map f xs) i 0
number-read f xs i x counter inside is x_is =
    let at : i < length xs = rw length-map at inside in
    x_is ∙ number-at f xs i counter at is

-- a number and the sum of its block, as they were read
pub record AreRead (b i x s : ℕ) (ns ss : List ℕ) : Type 0 where
  pub within : x ≤ s
  pub small : s < 2 ^ 127
  -- the sum that is written
  pub next : (new next : ℕ) → next ≡ s - x + new → get_or ss (i / b) 0 - get_or ns i 0 + new ≡ next

module _ (b i k x s : ℕ) (ns ss : List ℕ) (sums : AreSums b ns ss) (inside : i < length ns) (x_is : x ≡ get_or ns i 0) (k_is : k ≡ i / b) (s_is : s ≡ get_or ss k s) where
  its-block : i / b < length ss
  its-block = block_in b i (length ss) sums.some (omega (arith, inside, sums.whole))

  sum-read : s ≡ get_or ss (i / b) 0
  sum-read = get_or_read ss k s (rw k_is its-block) s_is 0 ∙ ap (λ q. get_or ss q 0) k_is

  pub are-read : AreRead b i x s ns ss
  are-read =
      let at = block_of b i sums.some in
      let each = sums.each (i / b) its-block in
      record {
        within = omega (arith, sum-read, x_is, each, number-le-sum_below ns i ((i / b + 1) * b) at.1 inside, sum_below-le ns (i / b * b) i at.0);
        small = omega (arith, sum-read, each, sum-fits ns sums.few sums.fits, sum_below-le-sum ns ((i / b + 1) * b));
        next = λ new next is. omega (arith, sum-read, x_is, is);
      }
