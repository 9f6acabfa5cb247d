-- The sum of a block, by the sums of its sections.
use Rattle.std.proofs.Common.{◌≡◌, ℕ, ◌+◌, ◌*◌, ◌^◌, ◌<◌, ◌≤◌, zero, suc, List, length, take, drop, sum, ap, ◌∙◌, arith}
use Rattle.std.proofs.Math.Nat.{mul_assoc, mul-le-mul_left}
use Rattle.hdr_counts.specs.Blocks.{AreSums, sum_below}
use Rattle.hdr_counts.proofs.BlocksSums.{sum_below-add, sum_below_more, sum_below-le-sum, sum-fits, blocks_more}

-- the sums before a section are those of the numbers before it
pub sums-below : (b : ℕ) (ns ss : List ℕ) (k : ℕ) → AreSums b ns ss → k ≤ length ss → sum_below ss k ≡ sum_below ns (k * b)
sums-below b ns ss zero h le = ap (sum_below ns) (let e : 0 ≡ 0 * b = omega arith in e)
sums-below b ns ss (suc k) h le =
    let lt : k < length ss = omega arith in
    let before = sums-below b ns ss k h (omega arith) in
    let more = sum_below_more ss k lt in
    let next = h.each k lt in
    let at : sum_below ss (suc k) ≡ sum_below ss (k + 1) = ap (sum_below ss) (let e : suc k ≡ k + 1 = omega arith in e) in
    let to : sum_below ns ((k + 1) * b) ≡ sum_below ns (suc k * b) = ap (λ j. sum_below ns (j * b)) (let e : k + 1 ≡ suc k = omega arith in e) in
    omega (arith, before, more, next, at, to)

-- the sums of the g sections of block k, which has w numbers
pub record AreOfBlock (g w k : ℕ) (ns ss : List ℕ) : Type 0 where
  pub within : k * g + g ≤ length ss
  pub end_fits : k * g + g < 2 ^ 64
  pub fits : sum (take g (drop (k * g) ss)) < 2 ^ 128
  pub is : sum_below ns (k * w) + sum (take g (drop (k * g) ss)) ≡ sum_below ns ((k + 1) * w)

pub block-sums : (b g w k : ℕ) (ns ss : List ℕ) → AreSums b ns ss → g * b ≡ w → (k + 1) * w ≤ length ns → AreOfBlock g w k ns ss
block-sums b g w k ns ss h wide room =
    let step : k * g + g ≡ (k + 1) * g = omega arith in
    let end : (k + 1) * g * b ≡ (k + 1) * w = mul_assoc (k + 1) g b ∙ ap (λ m. (k + 1) * m) wide in
    let begin : k * g * b ≡ k * w = mul_assoc k g b ∙ ap (λ m. k * m) wide in
    let within : (k + 1) * g ≤ length ss = blocks_more b ((k + 1) * g) (length ss) h.some (omega (arith, end, room, h.whole)) in
    let few : length ss * 1 ≤ length ss * b = mul-le-mul_left (length ss) h.some in
    let is : sum_below ns (k * w) + sum (take g (drop (k * g) ss)) ≡ sum_below ns ((k + 1) * w) =
    omega (
      arith,
      sum_below-add ss (k * g) g,
      sums-below b ns ss (k * g) h (omega (arith, within, step)),
      sums-below b ns ss (k * g + g) h (omega (arith, within, step)),
      ap (sum_below ns) begin,
      ap (λ m. sum_below ns (m * b)) step,
      ap (sum_below ns) end,
    ) in
    record {
      within = omega (arith, within, step);
      end_fits = omega (arith, within, step, few, h.whole, h.few);
      fits = omega (arith, is, sum_below-le-sum ns ((k + 1) * w), sum-fits ns h.few h.fits);
      is = is;
    }
