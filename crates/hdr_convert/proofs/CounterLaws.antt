-- Bins whose numbers are set in order to those of counters.
use Rattle.std.proofs.Common.{◌≡◌, ℕ, ◌+◌, ◌*◌, ◌<◌, ◌≤◌, ◌⊎◌, inl, inr, List, length, drop, false, nat_le, slice_index, slice_set, replicate, zero, suc, EachIndex, ◌-◌, refl, sym, ap, ◌∙◌, arith}
use Rattle.std.proofs.lemmas.Bool.Decides.{nat_tests}
use Rattle.std.proofs.Math.Nat.{mul-le-mul_left}
use Rattle.byteorder.specs.Endian.{big_from}
use Rattle.hdr_convert.specs.Old.{counter_at, number_at, IsWidth, AreCounters}
use Rattle.std.proofs.lemmas.Grind.{get_or-set_at}
use Rattle.std.proofs.lemmas.List.{get_or-set_other, get_or-drop, get_or_past}

-- The first `n` bins have the numbers of counters, and the others 0.
unfoldable pub AreSet : ℕ → ℕ → List ℕ → List ℕ → Type 0
AreSet n width bytes counts =
    ((i : ℕ) → i < n → slice_index counts i ≡ counter_at width bytes i) × ((i : ℕ) → n ≤ i → slice_index counts i ≡ 0)

-- No counter begins past the bytes.
past-bytes : (width : ℕ) (bytes : List ℕ) (i : ℕ) → IsWidth width → length bytes ≤ i → nat_le (width * i + width) (length bytes) ≡ false
unfolding IsWidth
past-bytes width bytes i (inl e) le = grind (arith, nat_tests, e)
past-bytes width bytes i (inr (inl e)) le = grind (arith, nat_tests, e)
past-bytes width bytes i (inr (inr e)) le = grind (arith, nat_tests, e)

pub counter_past : (width : ℕ) (bytes : List ℕ) (i : ℕ) → IsWidth width → length bytes ≤ i → counter_at width bytes i ≡ 0
unfolding counter_at
counter_past width bytes i is le = let e = past-bytes width bytes i is le in grind (arith, e)

zeros : (n i : ℕ) → slice_index (replicate n 0) i ≡ 0
zeros zero i = refl
zeros (suc n) zero = refl
zeros (suc n) (suc i) = zeros n i

pub none_set : (width n : ℕ) (bytes counts : List ℕ) → counts ≡ replicate n 0 → AreSet 0 width bytes counts
unfolding AreSet
none_set width n bytes counts e = (λ i le. grind arith, λ i le. ap (λ xs. slice_index xs i) e ∙ zeros n i)

pub next_set : (n width : ℕ) (bytes counts : List ℕ) → n < length counts → AreSet n width bytes counts
    → AreSet (n + 1) width bytes (slice_set counts n (counter_at width bytes n))
unfolding AreSet
next_set n width bytes counts lt (set, others) =
    (λ i le. grind (arith, set, get_or-set_at, get_or-set_other), λ i le. grind (arith, others, get_or-set_other))

-- The number in bytes that are 0.
big-zero : (xs : List ℕ) (j n : ℕ) → ((k : ℕ) → slice_index xs k ≡ 0) → big_from j n xs ≡ 0
big-zero xs j zero z = refl
big-zero xs j (suc n) z = let first = z j in let rest = big-zero xs (suc j) n z in grind (arith, first, rest)

zero-drop : (bytes : List ℕ) (start p : ℕ) → ((k : ℕ) → start ≤ k → slice_index bytes k ≡ 0) → start ≤ p
    → (k : ℕ) → slice_index (drop p bytes) k ≡ 0
zero-drop bytes start p z le k = get_or-drop p bytes k 0 ∙ z (p + k) (omega arith)

zero-number : (width place start : ℕ) (bytes : List ℕ) → ((k : ℕ) → start ≤ k → slice_index bytes k ≡ 0) → start ≤ place
    → number_at width place bytes ≡ 0
unfolding number_at
zero-number width place start bytes z le = big-zero (drop place bytes) 0 width (zero-drop bytes start place z le)

-- A counter in bytes that are 0 is 0.
pub zero_counter : (width bins i : ℕ) (bytes : List ℕ) → ((k : ℕ) → width * bins ≤ k → slice_index bytes k ≡ 0) → bins ≤ i
    → counter_at width bytes i ≡ 0
unfolding counter_at
zero_counter width bins i bytes z le =
    let n = zero-number width (width * i) (width * bins) bytes z (mul-le-mul_left width le) in
    grind (arith, nat_tests, n)

pub all_set : (n width : ℕ) (bytes counts kept : List ℕ) → IsWidth width → (length bytes ≤ n) ⊎ (length counts ≤ n)
    → ((k : ℕ) → width * length counts ≤ k → slice_index bytes k ≡ 0) → AreSet n width bytes counts → kept ≡ counts
    → AreCounters width bytes kept
unfolding AreSet AreCounters
all_set n width bytes counts kept is long zeros (set, others) e =
    let len = ap length e in (
      λ i le. let same = ap (λ xs. slice_index xs i) e in
          grind (arith, set, others, counter_past width bytes i is, same, len),
      λ i le. zero_counter width (length counts) i bytes zeros (omega (arith, len, le)),
    )

no_index : (xs : List ℕ) → EachIndex xs (λ k. slice_index xs k ≡ 0) → (k : ℕ) → slice_index xs k ≡ 0
no_index xs are k = grind (arith, are k, get_or_past xs k 0)

-- Bytes that are 0 from a start on.
pub zero_past : (bytes : List ℕ) (start : ℕ) → EachIndex (drop start bytes) (λ k. slice_index (drop start bytes) k ≡ 0)
    → (i : ℕ) → start ≤ i → slice_index bytes i ≡ 0
zero_past bytes start are i le =
    let at : start + (i - start) ≡ i = omega arith in
    let all = no_index (drop start bytes) are (i - start) in
    sym (ap (λ k. slice_index bytes k) at) ∙ sym (get_or-drop start bytes (i - start) 0) ∙ all
