-- Varints that are decoded byte by byte, from a slice and from a reader.
use Rattle.std.proofs.Common.{◌≡◌, ℕ, zero, suc, ◌+◌, ◌-◌, ◌*◌, ◌/◌, ◌%◌, ◌^◌, ◌<◌, ◌≤◌, List, [], ◌∷◌, ◌++◌, length, take, get_or, refl, sym, ap, ◌∙◌, subst, arith, append_assoc, length-append, Option, ◌≢◌, take_all, inl, inr}
use Rattle.std.proofs.lemmas.Bool.{le-ltb, lt-ltb, cases_lt}
use Rattle.std.specs.Io.KnownBytes.{Consumes}
use Rattle.std.proofs.KnownBytes.{Consumes-trans}
use Rattle.std.proofs.Math.Seq.{get_or-append_seam}
use Rattle.std.proofs.Math.Pow.{pow_mono}
use Rattle.std.proofs.Math.Nat.{mul-le-mul_left}
use Rattle.std.proofs.lemmas.List.{take-append-le, take_more}
use Rattle.std.specs.List.{AllByRecursion}
use Rattle.hdrhistogram.specs.Varint.{IsSpelling, number_of_spelling, Spells}
use Rattle.hdrhistogram.proofs.VarintSpellings.{nothing_spelled}
use Rattle.hdrhistogram.proofs.VarintWriting.{power_next}

-- ---- reading, byte by byte

-- each of these is a byte
abbrev pub AreBytes : List ℕ → Type 0
AreBytes bytes = (i : ℕ) → get_or bytes i 0 < 256

bytes_taken : (n : ℕ) (bytes : List ℕ) → AreBytes bytes → AllByRecursion (λ b. b < 256) (take n bytes)
bytes_taken zero bytes fits = tt
bytes_taken (suc n) [] fits = tt
bytes_taken (suc n) (b ∷ bytes) fits = (fits 0, bytes_taken n bytes (λ i. fits (suc i)))

bytes_push : (bytes : List ℕ) (b : ℕ) → AreBytes bytes → b < 256 → AreBytes (bytes ++ b ∷ [])
bytes_push [] b fits h zero = h
bytes_push [] b fits h (suc i) = omega arith
bytes_push (c ∷ bytes) b fits h zero = fits 0
bytes_push (c ∷ bytes) b fits h (suc i) = bytes_push bytes b (λ k. fits (suc k)) h i

-- the bytes below `place` each have another after them, and value is their number, whatever follows
pub record IsReadTo (bytes : List ℕ) (place value weight : ℕ) : Type 0 where
  pub whole : (tail : List ℕ) → IsSpelling (8 - place) tail → IsSpelling 8 (take place bytes ++ tail)
  pub number : (tail : List ℕ) → number_of_spelling 8 (take place bytes ++ tail) ≡ value + weight * number_of_spelling (8 - place) tail
  pub high : AllByRecursion (λ b. 128 ≤ b) (take place bytes)
  pub weight_is : weight ≡ 2 ^ (7 * place)
  pub below : value < weight
  pub few : place ≤ 8

one_more : (bytes tail : List ℕ) (place : ℕ) → place < length bytes → take (place + 1) bytes ++ tail ≡ take place bytes ++ (get_or bytes place 0 ∷ tail)
one_more bytes tail place room = ap (λ l. l ++ tail) (take_more bytes place 0 room) ∙ append_assoc (take place bytes) _ _

high_first : (left next b : ℕ) (tail : List ℕ) → left ≡ suc next → 128 ≤ b → IsSpelling next tail → IsSpelling left (b ∷ tail)
unfolding IsSpelling
high_first left next b tail e high h =
    let at_next : IsSpelling (suc next) (b ∷ tail) = rw (le-ltb b 128 high) h in subst (λ l. IsSpelling l (b ∷ tail)) (sym e) at_next

low_first : (left next b : ℕ) → left ≡ suc next → b < 128 → IsSpelling left (b ∷ [])
unfolding IsSpelling
low_first left next b e low =
    let at_next : IsSpelling (suc next) (b ∷ []) = rw (lt-ltb b 128 low) refl in subst (λ l. IsSpelling l (b ∷ [])) (sym e) at_next

first_group : (left next b : ℕ) (tail : List ℕ) → left ≡ suc next → number_of_spelling left (b ∷ tail) ≡ b % 128 + 128 * number_of_spelling next tail
unfolding number_of_spelling
first_group left next b tail e = ap (λ l. number_of_spelling l (b ∷ tail)) e

all_push : (P : ℕ → Type 0) (xs : List ℕ) (y : ℕ) → AllByRecursion P xs → P y → AllByRecursion P (xs ++ y ∷ [])
all_push P [] y h p = (p, tt)
all_push P (x ∷ xs) y h p = (h.0, all_push P xs y h.1 p)

-- a byte that has another after it
pub read_next : (bytes : List ℕ) (place value weight : ℕ) → IsReadTo bytes place value weight → place < 8 → place < length bytes → 128 ≤ get_or bytes place 0
    → IsReadTo bytes (place + 1) (value + weight * (get_or bytes place 0 % 128)) (weight * 128)
read_next bytes place value weight r h room high =
    let b = get_or bytes place 0 in
    let step : 8 - place ≡ suc (8 - (place + 1)) = omega arith in
    let group : weight * (b % 128) ≤ weight * 127 = mul-le-mul_left weight (omega arith) in
    record {
      whole = λ tail t. rw (one_more bytes tail place room) (r.whole (b ∷ tail) (high_first _ _ b tail step high t));
      number = λ tail. ap (number_of_spelling 8) (one_more bytes tail place room) ∙ r.number (b ∷ tail) ∙ ap (λ n. value + weight * n) (first_group _ _ b tail step) ∙ omega arith;
      high = rw (take_more bytes place 0 room) (all_push (λ x. 128 ≤ x) (take place bytes) b r.high high);
      weight_is = ap (λ n. n * 128) r.weight_is ∙ sym (power_next place);
      below = omega (arith, r.below, group);
      few = omega arith;
    }

-- the last byte, of seven bits
pub read_end : (bytes : List ℕ) (place value weight : ℕ) → AreBytes bytes → IsReadTo bytes place value weight → place < 8 → place < length bytes → get_or bytes place 0 < 128
    → Spells (take (place + 1) bytes) (value + weight * (get_or bytes place 0 % 128))
read_end bytes place value weight fits r h room low =
    let b = get_or bytes place 0 in
    let step : 8 - place ≡ suc (8 - (place + 1)) = omega arith in
    let none = nothing_spelled (8 - (place + 1)) in
    record {
      bytes = bytes_taken (place + 1) bytes fits;
      whole = rw (take_more bytes place 0 room) (r.whole (b ∷ []) (low_first _ _ b step low));
      value = sym (ap (number_of_spelling 8) (take_more bytes place 0 room) ∙ r.number (b ∷ []) ∙ ap (λ n. value + weight * n) (first_group _ _ b [] step ∙ omega (arith, none)));
    }

-- the last byte, of eight
pub read_last : (bytes : List ℕ) (place value weight : ℕ) → AreBytes bytes → IsReadTo bytes place value weight → place ≡ 8 → place < length bytes
    → Spells (take 9 bytes) (value + weight * get_or bytes place 0)
unfolding IsSpelling number_of_spelling
read_last bytes place value weight fits r full room =
    let b = get_or bytes place 0 in
    let nine : 9 ≡ place + 1 = omega arith in
    let all : take 9 bytes ≡ take place bytes ++ b ∷ [] = ap (λ n. take n bytes) nine ∙ take_more bytes place 0 room in
    let none : 8 - place ≡ 0 = omega arith in
    let ninth : IsSpelling (8 - place) (b ∷ []) = subst (λ l. IsSpelling l (b ∷ [])) (sym none) refl in
    record {
      bytes = bytes_taken 9 bytes fits;
      whole = rw all (r.whole (b ∷ []) ninth);
      value = sym (ap (number_of_spelling 8) all ∙ r.number (b ∷ []) ∙ ap (λ l. value + weight * number_of_spelling l (b ∷ [])) none);
    }

-- one more byte after those that were read
pub read_behind : (bytes more : List ℕ) (place value weight : ℕ) → IsReadTo bytes place value weight → length bytes ≡ place → IsReadTo (bytes ++ more) place value weight
read_behind bytes more place value weight r e =
    let same : take place bytes ≡ take place (bytes ++ more) = sym (take-append-le place bytes more (omega arith)) in
    record {
      whole = λ tail h. subst (λ l. IsSpelling 8 (l ++ tail)) same (r.whole tail h);
      number = λ tail. ap (λ l. number_of_spelling 8 (l ++ tail)) (sym same) ∙ r.number tail;
      high = subst (AllByRecursion (λ b. 128 ≤ b)) same r.high;
      weight_is = r.weight_is;
      below = r.below;
      few = r.few;
    }

pub one_byte : (part : List ℕ) → length part ≡ 1 → part ≡ get_or part 0 0 ∷ []
one_byte [] e = absurd (omega arith)
one_byte (b ∷ []) e = refl
one_byte (b ∷ c ∷ part) e = absurd (omega arith)

-- what was read so far
pub record IsTaken (old new : Option (List ℕ)) (place value weight : ℕ) : Type 0 where
  pub bytes : List ℕ
  pub read : IsReadTo bytes place value weight
  pub count : length bytes ≡ place
  pub taken : Consumes old new bytes
  pub fits : AreBytes bytes

module _ (old mid new : Option (List ℕ)) (part : List ℕ) (place value weight : ℕ) (t : IsTaken old mid place value weight) (e : length part ≡ 1) (byte : get_or part 0 0 < 256) (q : Consumes mid new part) where
  behind : IsReadTo (t.bytes ++ get_or part 0 0 ∷ []) place value weight
  behind = read_behind t.bytes (get_or part 0 0 ∷ []) place value weight t.read t.count

  here : get_or (t.bytes ++ get_or part 0 0 ∷ []) place 0 ≡ get_or part 0 0
  here = ap (λ n. get_or (t.bytes ++ get_or part 0 0 ∷ []) n 0) (sym t.count) ∙ get_or-append_seam t.bytes (get_or part 0 0) [] 0

  all_taken : Consumes old new (t.bytes ++ get_or part 0 0 ∷ [])
  all_taken = subst (λ l. Consumes old new (t.bytes ++ l)) (one_byte part e) (Consumes-trans old mid new t.bytes part t.taken q)

  size : length (t.bytes ++ get_or part 0 0 ∷ []) ≡ place + 1
  size = omega (arith, length-append t.bytes (get_or part 0 0 ∷ []), t.count)

  all_fit : AreBytes (t.bytes ++ get_or part 0 0 ∷ [])
  all_fit = bytes_push t.bytes (get_or part 0 0) t.fits byte

  pub taken_next : place ≢ 8 → 128 ≤ get_or part 0 0 → IsTaken old new (place + 1) (value + weight * (get_or part 0 0 % 128)) (weight * 128)
  taken_next h high = record {
    bytes = t.bytes ++ get_or part 0 0 ∷ [];
    read = subst (λ b. IsReadTo (t.bytes ++ get_or part 0 0 ∷ []) (place + 1) (value + weight * (b % 128)) (weight * 128)) here
        (read_next _ place value weight behind (omega (arith, t.read.few)) (omega (arith, size)) (omega (arith, here)));
    count = size;
    taken = all_taken;
    fits = all_fit;
  }

  pub taken_end : place ≢ 8 → get_or part 0 0 < 128 → (text : List ℕ) × Spells text (value + weight * (get_or part 0 0 % 128)) × Consumes old new text
  taken_end h low = (
    t.bytes ++ get_or part 0 0 ∷ [],
    subst (λ l. Spells l (value + weight * (get_or part 0 0 % 128))) (take_all (place + 1) (t.bytes ++ get_or part 0 0 ∷ []) (omega (arith, size)))
        (subst (λ b. Spells (take (place + 1) (t.bytes ++ get_or part 0 0 ∷ [])) (value + weight * (b % 128))) here
        (read_end _ place value weight all_fit behind (omega (arith, t.read.few)) (omega (arith, size)) (omega (arith, here)))),
    all_taken,
  )

  pub taken_last : place ≡ 8 → (text : List ℕ) × Spells text (value + weight * get_or part 0 0) × Consumes old new text
  taken_last h = (
    t.bytes ++ get_or part 0 0 ∷ [],
    subst (λ l. Spells l (value + weight * get_or part 0 0)) (take_all 9 (t.bytes ++ get_or part 0 0 ∷ []) (omega (arith, size)))
        (subst (λ b. Spells (take 9 (t.bytes ++ get_or part 0 0 ∷ [])) (value + weight * b)) here (read_last _ place value weight all_fit behind h (omega (arith, size)))),
    all_taken,
  )

-- what is read of fewer than nine bytes fits
pub weight_fits : (place weight : ℕ) → weight ≡ 2 ^ (7 * place) → place ≤ 8 → place ≢ 8 → weight ≤ 2 ^ 49
weight_fits place weight e h k = rw e (pow_mono {i = 7 * place} {j = 49} (omega arith))

pub value_fits : (place value weight b : ℕ) → weight ≡ 2 ^ (7 * place) → place ≤ 8 → place ≢ 8 → value < weight → value + weight * (b % 128) < 2 ^ 64
value_fits place value weight b e h k v =
    let group : weight * (b % 128) ≤ weight * 127 = mul-le-mul_left weight (omega arith) in
    omega (arith, weight_fits place weight e h k, group)

-- a varint of one byte, and of two
pub one_spelt : (bytes : List ℕ) → 0 < length bytes → get_or bytes 0 0 < 128 → Spells (take 1 bytes) (get_or bytes 0 0)
unfolding IsSpelling number_of_spelling
one_spelt [] some low = absurd (omega arith)
one_spelt (b ∷ bytes) some low = record { bytes = (omega arith, tt); whole = rw (lt-ltb b 128 low) refl; value = omega arith }

pub two_spelt : (bytes : List ℕ) → 1 < length bytes → 128 ≤ get_or bytes 0 0 → get_or bytes 0 0 < 256 → get_or bytes 1 0 < 128
    → Spells (take 2 bytes) (get_or bytes 0 0 % 128 + 128 * get_or bytes 1 0)
unfolding IsSpelling number_of_spelling
two_spelt [] some high fits low = absurd (omega arith)
two_spelt (b ∷ []) some high fits low = absurd (omega arith)
two_spelt (b ∷ c ∷ bytes) some high fits low = record {
  bytes = (fits, (omega arith, tt));
  whole = rw (le-ltb b 128 high) (rw (lt-ltb c 128 low) refl);
  value = omega arith;
}

-- one byte or two, by the first byte
pub one_or_two_spelt : (bytes : List ℕ) (two : ℕ) → 1 < length bytes → get_or bytes 0 0 < 256 → two ≡ get_or bytes 0 0 / 128 → two * get_or bytes 1 0 < 128
    → Spells (take (1 + two) bytes) (get_or bytes 0 0 % 128 + 128 * (two * get_or bytes 1 0))
one_or_two_spelt bytes two more fits is low =
    let first = get_or bytes 0 0 in
    let second = get_or bytes 1 0 in
    elim (cases_lt first 128) [
      | inl below ↦ (
          let none : two ≡ 0 = omega arith in
          let value : first % 128 + 128 * (0 * second) ≡ first = omega arith in
          rw (none, value) (one_spelt bytes (omega arith) below)
          )
      | inr above ↦ (
          let one : two ≡ 1 = omega arith in
          let last : second < 128 = omega (arith, ap (λ k. k * second) one) in
          let value : first % 128 + 128 * (1 * second) ≡ first % 128 + 128 * second = omega arith in
          rw (one, value) (two_spelt bytes more above fits last)
          )
    ]
