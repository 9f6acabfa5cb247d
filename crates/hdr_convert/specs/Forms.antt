-- The forms of a histogram's bytes, by their first four bytes.
use Rattle.std.specs.Prelude.{ℕ, List, ◌≡◌, ◌≤◌, ◌+◌, ◌⊎◌, bit_and, length, take, drop}
use Rattle.byteorder.specs.Endian.{big_number}
use Rattle.hdr_zlib.specs.Stream.{Inflates}
use Rattle.hdr_convert.specs.declared.bytes.Form.{Form}
use Rattle.hdr_convert.specs.declared.bytes.Form.TheVariants.{Plain, Compressed}

-- The number in the first four bytes.
abbrev pub cookie : List ℕ → ℕ
cookie bytes = big_number 4 bytes

-- The bytes start as V2 bytes.
abbrev pub IsPlain : List ℕ → Type 0
IsPlain bytes = (4 ≤ length bytes) × (cookie bytes ≡ 0x1c849313)

-- The bytes start as compressed V2 bytes.
abbrev pub IsCompressed : List ℕ → Type 0
IsCompressed bytes = (4 ≤ length bytes) × (cookie bytes ≡ 0x1c849314)

-- The number in the first four bytes, without the bits that hold the width of a counter in versions 0 and 1.
abbrev pub cookie_base : List ℕ → ℕ
cookie_base bytes = bit_and (cookie bytes) 0xffffff0f

-- The bytes start as a histogram of version 0 or 1 of any width, compressed or not.
abbrev pub IsOfVersion : ℕ → List ℕ → Type 0
IsOfVersion version bytes =
    (4 ≤ length bytes) × (((version ≡ 0) × ((cookie_base bytes ≡ 0x1c849308) ⊎ (cookie_base bytes ≡ 0x1c849309)))
    ⊎ ((version ≡ 1) × ((cookie_base bytes ≡ 0x1c849301) ⊎ (cookie_base bytes ≡ 0x1c849302))))

-- The bytes start as a compressed histogram of version 0 or 1.
abbrev pub IsOldCompressed : List ℕ → Type 0
IsOldCompressed bytes = (4 ≤ length bytes) × ((cookie_base bytes ≡ 0x1c849309) ⊎ (cookie_base bytes ≡ 0x1c849302))

-- The bytes start as a histogram of floating-point values, compressed or not.
abbrev pub IsDouble : List ℕ → Type 0
IsDouble bytes = (4 ≤ length bytes) × ((cookie bytes ≡ 0x0c72124e) ⊎ (cookie bytes ≡ 0x0c72124f))

-- The length of the zlib stream of a compressed histogram, which precedes it.
unfoldable pub stream_len : List ℕ → ℕ
stream_len bytes = big_number 4 (drop 4 bytes)

-- What a compressed histogram holds: the data of its zlib stream, which is complete.
abbrev pub Compresses : List ℕ → List ℕ → Type 0
Compresses bytes inside =
    (8 + stream_len bytes ≤ length bytes) × Inflates (take (stream_len bytes) (drop 8 bytes)) inside

-- The bytes start as those of this form.
abbrev pub HasForm : Form → List ℕ → Type 0
HasForm Plain bytes = IsPlain bytes
HasForm Compressed bytes = IsCompressed bytes
