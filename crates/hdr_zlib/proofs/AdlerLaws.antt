-- Sums of bytes.
use Rattle.std.proofs.Common.{ℕ, suc, List, ◌∷◌, ◌++◌, ◌≡◌, ◌<◌, ◌≤◌, ◌+◌, ◌*◌, ◌%◌, drop, length, get_or, arith, ap, ◌∙◌}
use Rattle.std.proofs.Math.Nat.{add-mul, mul-add}
use Rattle.std.proofs.Math.Seq.{drop-cons}
use Rattle.hdr_zlib.specs.Adler.{sums_after}

-- The second sum after a byte, and what k more bytes add to it at least.
pub next_high : (k high low byte total : ℕ) → high + (k + 1) * low ≡ total
    → high + (low + byte) + k * (low + byte) ≡ total + (k + 1) * byte
next_high k high low byte total e =
    let a = add-mul k 1 low in
    let b = add-mul k 1 byte in
    let d = mul-add k low byte in
    omega (arith, a, b, d)

pub weighted_below : (k byte : ℕ) → k ≤ 2048 → byte < 256 → k * byte ≤ 2048 * 255
weighted_below k byte few below = grind arith

first_dropped : (bytes : List ℕ) (i : ℕ) → i < length bytes → drop i bytes ≡ get_or bytes i 0 ∷ drop (i + 1) bytes
first_dropped bytes i h =
    let next : suc i ≡ i + 1 = omega arith in
    drop-cons bytes i 0 h ∙ ap (λ (n : ℕ). get_or bytes i 0 ∷ drop n bytes) next

-- The sums after one byte more.
pub sums_next : (bytes rest : List ℕ) (i low high : ℕ) → i < length bytes
    → sums_after (low % 65521) (high % 65521) (drop i bytes ++ rest)
    ≡ sums_after ((low + get_or bytes i 0) % 65521) ((high + (low + get_or bytes i 0)) % 65521) (drop (i + 1) bytes ++ rest)
sums_next bytes rest i low high h =
    let byte : ℕ = get_or bytes i 0 in
    let others : List ℕ = drop (i + 1) bytes ++ rest in
    let first : (low % 65521 + byte) % 65521 ≡ (low + byte) % 65521 = omega arith in
    let second : (high % 65521 + (low % 65521 + byte) % 65521) % 65521 ≡ (high + (low + byte)) % 65521 = omega arith in
    ap (λ (xs : List ℕ). sums_after (low % 65521) (high % 65521) (xs ++ rest)) (first_dropped bytes i h)
    ∙ ap (λ (n : ℕ). sums_after n ((high % 65521 + (low % 65521 + byte) % 65521) % 65521) others) first
    ∙ ap (λ (n : ℕ). sums_after ((low + byte) % 65521) n others) second
