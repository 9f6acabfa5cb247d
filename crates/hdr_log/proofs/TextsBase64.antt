-- Base64 is a field that may be written.
use Rattle.std.proofs.Common.{◌≡◌, ℕ, zero, suc, ◌==◌, Bool, true, not, ◌&&◌, List, [], ◌∷◌, ◌++◌, length, replicate, slice_index, Some, refl, ap, ap₂, ◌∙◌, arith}
use Rattle.std.specs.List.{list_all}
use Rattle.std.proofs.lemmas.List.Folds.{list_all-append}
use Rattle.std.proofs.lemmas.Str.{is_utf8-from_IsUtf8, IsUtf8-from_ascii}
use Rattle.base64.specs.Rfc4648.{encode_symbols, encode_group, padding_len}
use Rattle.base64.specs.Engines.{standard}
use Rattle.base64.specs.GeneralPurpose.{IsBytes, engine_symbols, encode_of}
use Rattle.base64.proofs.EngineFacts.{IsAscii-encode_of, decode_of-encode_of}
use Rattle.hdr_log.specs.Grammar.{without_crs}
use Rattle.std.specs.Result.{result_ok}
use Rattle.hdr_log.specs.Texts.{base64_of, base64_bytes}
use Rattle.hdr_log.specs.Pieces.{IsField}

-- no line's end, nor a part of one
abbrev is_plain : ℕ → Bool
is_plain b = not (b == 10) && not (b == 13)

at_place : (t : List ℕ) (i : ℕ) → list_all is_plain t ≡ true → is_plain (slice_index t i) ≡ true
at_place [] i h = refl
at_place (x ∷ t) zero h = grind arith
at_place (x ∷ t) (suc i) h = at_place t i (grind arith)

symbol : (i : ℕ) → is_plain (slice_index (engine_symbols standard) i) ≡ true
symbol i = at_place (engine_symbols standard) i refl

both : (xs ys : List ℕ) → list_all is_plain xs ≡ true → list_all is_plain ys ≡ true → list_all is_plain (xs ++ ys) ≡ true
both xs ys a b = list_all-append is_plain xs ys ∙ ap₂ ◌&&◌ a b

four : (t : List ℕ) (a b c d : ℕ) → ((i : ℕ) → is_plain (slice_index t i) ≡ true) → list_all is_plain (slice_index t a ∷ slice_index t b ∷ slice_index t c ∷ slice_index t d ∷ []) ≡ true
four t a b c d h = rw (h a, h b, h c, h d) refl

symbols : (t m : List ℕ) → ((i : ℕ) → is_plain (slice_index t i) ≡ true) → list_all is_plain (encode_symbols t m) ≡ true
unfolding encode_symbols
symbols t [] h = refl
symbols t (a ∷ []) h = rw (h _, h _) refl
symbols t (a ∷ b ∷ []) h = rw (h _, h _, h _) refl
symbols t (a ∷ b ∷ c ∷ rest) h = both (encode_group t a b c) (encode_symbols t rest) (four t _ _ _ _ h) (symbols t rest h)

padding : (n : ℕ) → list_all is_plain (replicate n 61) ≡ true
padding zero = refl
padding (suc n) = padding n

all_plain : (bytes : List ℕ) → list_all is_plain (encode_of standard bytes) ≡ true
all_plain bytes = both (encode_symbols (engine_symbols standard) bytes) (replicate (padding_len (length bytes)) 61) (symbols (engine_symbols standard) bytes symbol) (padding (padding_len (length bytes)))

no_crs : (text : List ℕ) → list_all is_plain text ≡ true → without_crs text ≡ text
no_crs [] h = refl
no_crs (x ∷ text) h = grind (arith, no_crs text)

no_lf : (text : List ℕ) → list_all is_plain text ≡ true → list_all (λ b. not (b == 10)) text ≡ true
no_lf [] h = refl
no_lf (x ∷ text) h = grind (arith, no_lf text)

pub base64_field : (bytes : List ℕ) → IsField (base64_of bytes)
unfolding base64_of
base64_field bytes = record {
  text = is_utf8-from_IsUtf8 (encode_of standard bytes) (IsUtf8-from_ascii (encode_of standard bytes) (IsAscii-encode_of standard bytes));
  whole = no_crs (encode_of standard bytes) (all_plain bytes);
  line = no_lf (encode_of standard bytes) (all_plain bytes);
}

pub base64_decoded : (bytes : List ℕ) → IsBytes bytes → base64_bytes (base64_of bytes) ≡ Some bytes
unfolding base64_of base64_bytes
base64_decoded bytes h = ap result_ok (decode_of-encode_of standard bytes refl h)
