-- The position of the first byte of a value.
use Rattle.std.proofs.Common.{◌≡◌, ℕ, ◌<◌, ◌==◌, Bool, true, false, List, length, Option, Some, None, refl, arith}
use Rattle.std.specs.List.{position, position_or_len}
use Rattle.std.proofs.lemmas.List.Sums.{position_or_len_is}
use Rattle.memchr.specs.Find.{IsFirstByte, is_byte}

fails : (t : Bool) → (t ≡ true → ⊥) → t ≡ false
fails true h = absurd (h refl)
fails false h = refl

at_end : (p : ℕ → Bool) (text : List ℕ) → position_or_len p text ≡ length text → None ≡ position p text
at_end p text e = grind arith

inside : (p : ℕ → Bool) (text : List ℕ) (k : ℕ) → k < length text → position_or_len p text ≡ k → Some k ≡ position p text
inside p text k l e = grind arith

-- what a search for a byte returns is its position
pub first_byte : (b : ℕ) (text : List ℕ) (r : Option ℕ) → IsFirstByte (is_byte b) text r → r ≡ position (λ x. x == b) text
first_byte b text None h = at_end (λ x. x == b) text (position_or_len_is (λ x. x == b) text (length text) 0 (omega arith) (λ k l. fails _ (λ e. h k (omega arith) l e)) (λ l. absurd (omega arith)))
first_byte b text (Some k) h = inside (λ x. x == b) text k h.0.high (position_or_len_is (λ x. x == b) text k 0 (omega (arith, h.0.high)) (λ j l. fails _ (λ e. h.0.before j (omega arith) l e)) (λ l. h.1))
