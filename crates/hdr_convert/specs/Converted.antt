-- What the bytes of a histogram are converted to.
use Rattle.std.specs.Prelude.{ℕ, List, ◌≡◌, ◌≤◌, ◌+◌, ◌*◌, ◌⊎◌, length}
use Rattle.hdr_base.specs.Classes.{most_bins}
use Rattle.hdr_convert.specs.Forms.{IsPlain, IsCompressed, IsOldCompressed, Compresses}
use Rattle.hdr_convert.specs.Old.{IsV2OfOld}
use Rattle.hdr_convert.specs.declared.bytes.Form.{Form}
use Rattle.hdr_convert.specs.declared.bytes.Form.TheVariants.{Plain, Compressed}

-- The V2 bytes of a histogram: the same, those that are compressed, or those of a histogram of version 0 or 1, which may be
-- compressed.
abbrev pub IsV2Of : List ℕ → List ℕ → Type 0
IsV2Of bytes v2 =
    (IsPlain bytes × (v2 ≡ bytes))
    ⊎ (IsCompressed bytes × Compresses bytes v2 × IsPlain v2)
    ⊎ IsV2OfOld bytes v2
    ⊎ (IsOldCompressed bytes × (inside : List ℕ) × Compresses bytes inside × IsV2OfOld inside v2)

-- The compressed V2 bytes of a histogram: the same, or a stream of its V2 bytes.
abbrev pub IsCompressedOf : List ℕ → List ℕ → Type 0
IsCompressedOf bytes packed =
    (IsCompressed bytes × (packed ≡ bytes))
    ⊎ ((IsCompressed bytes → ⊥) × IsCompressed packed × (v2 : List ℕ) × IsV2Of bytes v2 × Compresses packed v2)

-- A histogram's bytes in this form.
abbrev pub IsInForm : Form → List ℕ → List ℕ → Type 0
IsInForm Plain bytes made = IsV2Of bytes made
IsInForm Compressed bytes made = IsCompressedOf bytes made

-- The greatest length of V2 bytes: a header of 40 bytes, and 9 for each bin.
abbrev pub max_len : ℕ
max_len = 40 + 9 * most_bins

-- The bytes are V2 bytes, or a complete zlib stream of V2 bytes of at most the greatest length.
abbrev pub IsReadable : List ℕ → Type 0
IsReadable bytes =
    IsPlain bytes ⊎ (IsCompressed bytes × (v2 : List ℕ) × Compresses bytes v2 × IsPlain v2 × (length v2 ≤ max_len))
