-- The Adler-32 checksum.
use Rattle.std.specs.Prelude.{ℕ, ◌+◌, ◌*◌, ◌%◌, List, [], ◌∷◌}

-- The sums of bytes that follow others: of the bytes themselves, and of these sums after each byte. Both are reduced.
abbrev pub sums_after : ℕ → ℕ → List ℕ → ℕ
sums_after low high [] = high * 65536 + low
sums_after low high (byte ∷ bytes) =
    sums_after ((low + byte) % 65521) ((high + (low + byte) % 65521) % 65521) bytes

-- The checksum of bytes: 1 plus their sum, and the sum of what that is after each byte, modulo the greatest prime below 2^16.
abbrev pub adler32_of : List ℕ → ℕ
adler32_of bytes = sums_after 1 0 bytes
