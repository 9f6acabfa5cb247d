-- The V2 bytes of a histogram are bytes.
use Rattle.std.proofs.Common.{ℕ, zero, suc, ◌/◌, ◌%◌, ◌^◌, ◌<◌, List, [], ◌∷◌, ◌++◌, length, slice_index, sym, subst, arith}
use Rattle.std.specs.Int.{byte_at}
use Rattle.std.specs.List.{AllByRecursion}
use Rattle.byteorder.specs.Endian.{big_bytes}
use Rattle.hdr_model.specs.Plain.{Plain}
use Rattle.hdrhistogram.specs.Payload.{Part, AreSpelt}
use Rattle.hdrhistogram.specs.V2.{four, eight, header, IsV2}

abbrev AreBytes : List ℕ → Type 0
AreBytes text = AllByRecursion (λ b. b < 256) text

joined : (xs ys : List ℕ) → AreBytes xs → AreBytes ys → AreBytes (xs ++ ys)
joined [] ys h k = k
joined (x ∷ xs) ys h k = (h.0, joined xs ys h.1 k)

small : (n : ℕ) → n % 256 < 256
small n = omega arith

one : (n x : ℕ) → byte_at n x < 256
one zero x = small x
one (suc n) x = small (x / 256 ^ suc n)

big : (n x : ℕ) → AreBytes (big_bytes n x)
big zero x = tt
big (suc n) x = (one n x, big n x)

of_four : (n : ℕ) → AreBytes (four n)
unfolding four
of_four n = big 4 n

of_eight : (n : ℕ) → AreBytes (eight n)
unfolding eight
of_eight n = big 8 n

of_header : (h : Plain) (n : ℕ) → AreBytes (header h n)
of_header h n =
    let first = joined _ (four n) (of_four 0x1c849313) (of_four n) in
    let digits = joined _ (four h.sigfig) (joined _ (four 0) first (of_four 0)) (of_four h.sigfig) in
    let bounds = joined _ (eight h.high) (joined _ (eight h.low) digits (of_eight h.low)) (of_eight h.high) in
    joined _ (eight 0x3ff0000000000000) bounds (of_eight 0x3ff0000000000000)

of_parts : (parts : List Part) (text : List ℕ) → AreSpelt parts text → AreBytes text
of_parts [] text e = subst AreBytes (sym e) tt
of_parts (part ∷ parts) text (first, rest, e, s, more) = subst AreBytes (sym e) (joined first rest s.spells.bytes (of_parts parts rest more))

each : (text : List ℕ) → AreBytes text → (i : ℕ) → slice_index text i < 256
each [] h i = omega arith
each (b ∷ text) h zero = h.0
each (b ∷ text) h (suc i) = each text h.1 i

pub v2_bytes : (h : Plain) (text : List ℕ) → IsV2 h text → (i : ℕ) → slice_index text i < 256
v2_bytes h text v = each text (subst AreBytes (sym v.text) (joined (header h (length v.payload)) v.payload (of_header h (length v.payload)) (of_parts v.counts.parts v.payload v.counts.spelt)))
