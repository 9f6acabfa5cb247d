-- Zlib streams after the header of a compressed histogram.
use Rattle.std.proofs.Common.{◌≡◌, ◌+◌, ◌<◌, ◌^◌, ℕ, List, [], ◌++◌, length, take, drop, sym, ap, subst, ◌∙◌, arith}
use Rattle.std.proofs.Math.Seq.{take-length}
use Rattle.byteorder.specs.Endian.{big_number, big_bytes}
use Rattle.byteorder.specs.Numbers.{big_number-reads_back}
use Rattle.hdr_zlib.specs.Stream.{Inflates}
use Rattle.hdr_convert.specs.Forms.{stream_len, Compresses}

pub stream_after_header : (stream packed v2 : List ℕ) (cookie len : ℕ)
    → packed ≡ (([] ++ big_bytes 4 cookie) ++ big_bytes 4 len) ++ stream → len ≡ length stream → len < 2 ^ 32
    → Inflates stream v2 → Compresses packed v2
unfolding stream_len
stream_after_header stream packed v2 cookie len e same small inflates =
    let long : length packed ≡ 8 + length stream = ap length e ∙ omega arith in
    let after : drop 4 packed ≡ big_bytes 4 len ++ stream = ap (drop 4) e in
    let stated : big_number 4 (drop 4 packed) ≡ len = ap (big_number 4) after ∙ big_number-reads_back 4 len stream small in
    let rest : drop 8 packed ≡ stream = ap (drop 8) e in
    let all : take (big_number 4 (drop 4 packed)) (drop 8 packed) ≡ stream =
    ap (λ n. take n (drop 8 packed)) (stated ∙ same) ∙ ap (take (length stream)) rest ∙ take-length stream in
    (omega arith, subst (λ s. Inflates s v2) (sym all) inflates)
