-- The payload of the V2 encoding (the Rust crate's `encode_counts`): the counts of some bins in
-- order, where a run of empty bins is one number.
use Rattle.std.specs.Prelude.{◌≡◌, ℕ, zero, suc, ◌+◌, ◌*◌, ◌<◌, ◌++◌, min, List, [], ◌∷◌, ℤ, pos, negsuc, length, flat_map, replicate, count_by, nat_lt}
use Rattle.hdrhistogram.specs.Varint.{IsShortest}
use Rattle.hdrhistogram.specs.ZigZag.{zig_zag}

-- a run of empty bins, or one nonempty bin with its count
pub data Part : Type 0 where
  run : ℕ → Part
  bin : ℕ → Part

-- the counts of a part's bins
abbrev pub bins_of : Part → List ℕ
bins_of (run z) = replicate z 0
bins_of (bin c) = c ∷ []

-- the parts do not start with a run
abbrev pub BeginsNoRun : List Part → Type 0
BeginsNoRun [] = Unit {0}
BeginsNoRun (run z ∷ parts) = ⊥
BeginsNoRun (bin c ∷ parts) = Unit {0}

-- no run is empty or next to another, so each is as long as it can be, and no single bin is empty
abbrev pub AreMaximal : List Part → Type 0
AreMaximal [] = Unit {0}
AreMaximal (run z ∷ parts) = (0 < z) × BeginsNoRun parts × AreMaximal parts
AreMaximal (bin c ∷ parts) = (0 < c) × AreMaximal parts

-- the counts, split in order into maximal runs of empty bins and single nonempty bins
pub record IsSplit (counts : List ℕ) (parts : List Part) : Type 0 where
  pub whole : flat_map bins_of parts ≡ counts
  pub maximal : AreMaximal parts

-- the number that encodes a part: -z for a run of z empty bins, but 0 for a run of one, and the
-- count of a nonempty bin
abbrev pub number_of : Part → ℤ
number_of (run zero) = pos 0
number_of (run (suc zero)) = pos 0
number_of (run (suc (suc z))) = negsuc (suc z)
number_of (bin c) = pos c

-- the bytes are the canonical varints of the parts' numbers, in order
abbrev pub AreSpelt : List Part → List ℕ → Type 0
AreSpelt [] text = text ≡ []
AreSpelt (part ∷ parts) text =
    (first : List ℕ) × (rest : List ℕ) × (text ≡ first ++ rest)
    × IsShortest first (zig_zag (number_of part)) × AreSpelt parts rest

-- the bytes are the payload of the counts
pub record IsPayload (counts text : List ℕ) : Type 0 where
  pub parts : List Part
  pub split : IsSplit counts parts
  pub spelt : AreSpelt parts text

-- the bytes of a run that may be empty
abbrev pub IsRunText : ℕ → List ℕ → Type 0
IsRunText zero text = text ≡ []
IsRunText (suc z) text = IsShortest text (zig_zag (number_of (run (suc z))))

-- the number of nonzero counts
abbrev pub nonempty : List ℕ → ℕ
nonempty counts = count_by (λ n. nat_lt 0 n) counts

-- a bound of the payload's length in bytes: nine for each bin, or, if that is less, nine for each
-- nonempty bin, for a run before each of these, and for a last run
unfoldable pub enough_bytes : List ℕ → ℕ
enough_bytes counts = 9 * min (length counts) (2 * nonempty counts + 1)
