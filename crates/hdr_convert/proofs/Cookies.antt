-- Which histograms start as what.
use Rattle.std.proofs.Common.{◌≡◌, ℕ, ◌⊎◌, inl, inr, List, length, ap, arith}
use Rattle.byteorder.specs.Endian.{big_number}
use Rattle.hdr_model.specs.Plain.{Plain}
use Rattle.hdrhistogram.specs.V2.{IsV2, four}
use Rattle.hdr_convert.specs.Forms.{cookie, IsPlain, IsCompressed}
use Rattle.hdr_convert.specs.Old.{IsOld, StartsAs, IsWidth, number_at}

-- Bytes of version 0 or 1 start as neither form.
is_other : (bytes : List ℕ) → IsOld bytes → (cookie bytes ≡ 0x1c849313) ⊎ (cookie bytes ≡ 0x1c849314) → ⊥
unfolding StartsAs IsWidth number_at
is_other bytes (width, inl (len, inl e, is)) same = grind (arith, e, is, same)
is_other bytes (width, inl (len, inr (inl e), is)) same = grind (arith, e, is, same)
is_other bytes (width, inl (len, inr (inr e), is)) same = grind (arith, e, is, same)
is_other bytes (width, inr (len, inl e, is)) same = grind (arith, e, is, same)
is_other bytes (width, inr (len, inr (inl e), is)) same = grind (arith, e, is, same)
is_other bytes (width, inr (len, inr (inr e), is)) same = grind (arith, e, is, same)

pub old_not_plain : (bytes : List ℕ) → IsOld bytes → IsPlain bytes → ⊥
old_not_plain bytes old (long, plain) = is_other bytes old (inl plain)

pub old_not_compressed : (bytes : List ℕ) → IsOld bytes → IsCompressed bytes → ⊥
old_not_compressed bytes old (long, packed) = is_other bytes old (inr packed)

pub v2_is_plain : (h : Plain) (bytes : List ℕ) → IsV2 h bytes → IsPlain bytes
unfolding four
v2_is_plain h bytes is = (grind (arith, ap (λ (xs : List ℕ). length xs) is.text), ap (λ (xs : List ℕ). big_number 4 xs) is.text)
