-- V2 bytes in their two parts.
use Rattle.std.proofs.Common.{◌≡◌, ℕ, ◌+◌, ◌-◌, ◌≤◌, List, ◌++◌, length, take, drop, refl, sym, ap, ◌∙◌, arith, append_assoc, length-append, length-take-le, drop_at, take-append-drop}
use Rattle.std.proofs.Math.Seq.{take-append_seam}
use Rattle.byteorder.specs.Numbers.{length-bytes_high_first}
use borrow.Rule.Slice.PartMut.{put_mid, post_of}
use Rattle.hdr_model.specs.Plain.{Plain}
use Rattle.hdrhistogram.specs.Payload.{IsPayload}
use Rattle.hdrhistogram.specs.V2.{four, eight, header, written_counts, IsV2}

pub length-four : (n : ℕ) → length (four n) ≡ 4
unfolding four
length-four n = length-bytes_high_first 4 n

pub length-eight : (n : ℕ) → length (eight n) ≡ 8
unfolding eight
length-eight n = length-bytes_high_first 8 n

-- a header is 40 bytes long
pub length-header : (h : Plain) (n : ℕ) → length (header h n) ≡ 40
length-header h n = simp (length-append, length-four, length-eight) refl

-- a payload that was written after 40 bytes, and then a header instead of these
pub v2_whole : (h : Plain) (old part next payload : List ℕ) (n : ℕ) → 40 ≤ length old → IsPayload (written_counts h) payload → n ≡ length payload
    → part ≡ payload ++ drop n (drop 40 old) → next ≡ header h n ++ drop 40 (put_mid 40 (length old - 40) old part)
    → (40 + n ≤ length next) × IsV2 h (take (40 + n) next)
v2_whole h old part next payload n room p size e f =
    let behind = drop n (drop 40 old) ++ post_of 40 (length old - 40) old in
    let text = header h n ++ payload in
    let whole : next ≡ text ++ behind
    = f ∙ ap (λ l. header h n ++ l) (drop_at (take 40 old) (part ++ post_of 40 (length old - 40) old) 40 (length-take-le 40 old room) ∙ ap (λ l. l ++ post_of 40 (length old - 40) old) e ∙ append_assoc payload _ _)
    ∙ sym (append_assoc (header h n) payload behind) in
    let long : 40 + n ≡ length text = omega (arith, length-append (header h n) payload, length-header h n) in (
      omega (arith, ap (length {A = ℕ}) whole, length-append text behind),
      record { payload = payload; counts = p; text = ap (take (40 + n)) whole ∙ ap (λ k. take k (text ++ behind)) long ∙ take-append_seam text behind ∙ ap (λ k. header h k ++ payload) size },
    )

-- seven numbers that were written one after the other, from the start on
pub header_written : (h : Plain) (n sigfig low high : ℕ) (out a b c d e f g : List ℕ) → sigfig ≡ h.sigfig → low ≡ h.low → high ≡ h.high
    → take 4 a ≡ four 0x1c849313 → take 8 b ≡ take 4 a ++ four n → take 12 c ≡ take 8 b ++ four 0 → take 16 d ≡ take 12 c ++ four sigfig
    → take 24 e ≡ take 16 d ++ eight low → take 32 f ≡ take 24 e ++ eight high → take 40 g ≡ take 32 f ++ eight 0x3ff0000000000000
    → drop 40 g ≡ drop 40 out → g ≡ header h n ++ drop 40 out
header_written h n sigfig low high out a b c d e f g s l t pa pb pc pd pe pf pg behind =
    sym (take-append-drop 40 g) ∙ (let front : take 40 g ≡ header h n = rw (pg, pf, pe, pd, pc, pb, pa, s, l, t) refl in cc)
