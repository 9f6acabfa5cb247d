-- The varints of the V2 encoding (the Rust crate's `varint_write`, HdrHistogram's LEB128 of at most
-- nine bytes): seven bits a byte, the lowest first, and a high bit if another byte follows. A ninth
-- byte has eight bits, and none follows it.
use Rattle.std.specs.Prelude.{◌≡◌, ℕ, zero, suc, ◌+◌, ◌*◌, ◌%◌, ◌≤◌, ◌<◌, List, [], ◌∷◌, length, nat_lt, MatchBool}
use Rattle.std.specs.List.{AllByRecursion}

-- a complete varint, in which `left` bytes of seven bits may still come before one of eight: a byte
-- below 128 is the last, and a byte of eight bits is
unfoldable pub IsSpelling : ℕ → List ℕ → Type 0
IsSpelling left [] = ⊥
IsSpelling zero (b ∷ bs) = bs ≡ []
IsSpelling (suc left) (b ∷ bs) = MatchBool (nat_lt b 128) (bs ≡ []) (IsSpelling left bs)

-- the number that it encodes, the lowest seven bits first
unfoldable pub number_of_spelling : ℕ → List ℕ → ℕ
number_of_spelling left [] = 0
number_of_spelling zero (b ∷ bs) = b
number_of_spelling (suc left) (b ∷ bs) = b % 128 + 128 * number_of_spelling left bs

-- the bytes are a varint of the number
pub record Spells (text : List ℕ) (n : ℕ) : Type 0 where
  pub bytes : AllByRecursion (λ b. b < 256) text
  pub whole : IsSpelling 8 text
  pub value : n ≡ number_of_spelling 8 text

-- the canonical varint of the number, the one that is written: no varint of it is shorter
pub record IsShortest (text : List ℕ) (n : ℕ) : Type 0 where
  pub spells : Spells text n
  pub least : (other : List ℕ) → Spells other n → length text ≤ length other
