-- What was read back from a histogram's bytes or from its line.
use Rattle.std.proofs.Common.{◌≡◌, ℕ, List, [], ◌∷◌, ◌++◌, Option, Some, None, Result, Ok, Err, true, is_some, map, sym, ap, ◌∙◌, subst}
use Rattle.std.proofs.lemmas.List.{append-nil}
use Rattle.std.specs.List.{AllByRecursion, flat_map}
use Rattle.hdr_base.specs.Fractions.{Ratio}
use Rattle.hdr_log.specs.Grammar.{Interval, Span, reading}
use Rattle.hdr_log.specs.Pieces.{Piece, Measured, IsPiece, text_of, piece_text, entries_of_piece, interval_of_piece, is_read}
use Rattle.hdr_log.specs.Texts.{AreBytes, base64_of, base64_bytes, to_thousandths, max_thousandths}
use Rattle.hdr_model.specs.Plain.{Plain, IsPlain, resolution, max_of}
use Rattle.hdr_model.specs.Quantiles.{value_at_quantile}
use Rattle.hdr_model.specs.Samples.{StandsFor}
use Rattle.hdrhistogram.specs.Defects.{Defect, FailsBy, defect_of_error}
use Rattle.hdrhistogram.specs.FieldRead.{IsHeldIn, IsFieldDecodeError}
use Rattle.hdrhistogram.specs.LogLeaving.{IsIntervalText}
use Rattle.hdrhistogram.specs.V2.{IsV2}
use Rattle.hdrhistogram.specs.V2Read.{Contents, v2_at, histogram_contents, IsReadAs, IsReadBack, ReadsV2}
use Rattle.hdrhistogram.specs.declared.serialization.errors.DeserializeError.{DeserializeError}
use Rattle.hdrhistogram.specs.declared.serialization.errors.FieldDecodeError.{FieldDecodeError}
use Rattle.hdrhistogram.specs.declared.serialization.errors.FieldDecodeError.TheVariants.{NotBase64, Decode}
use Rattle.hdr_headline.specs.Alike.{StandsAlike, BeginsWith, IsFirstField, BeginsWithNone}

-- the library's laws on what is read back
pub record ReadsBack : Type 0 where
  pub contents : (greatest : ℕ) (h : Plain) (bytes more : List ℕ) → IsPlain greatest h → IsV2 h bytes → v2_at greatest (bytes ++ more) ≡ Ok (histogram_contents h, more)
  pub histogram : (greatest taken : ℕ) (h k : Plain) (bytes more : List ℕ) → IsPlain greatest h → IsV2 h bytes → IsReadAs greatest (bytes ++ more) k taken → IsReadBack h k

pub record BackStands : Type 0 where
  pub classes : (h k : Plain) → IsReadBack h k → resolution k ≡ resolution h
  pub samples : (greatest : ℕ) (h k : Plain) (S : List ℕ) → IsPlain greatest h → IsReadBack h k → StandsFor h S → StandsFor k S
  pub quantiles : (most : ℕ) (h k : Plain) (S : List ℕ) → IsPlain most h → IsReadBack h k → StandsFor h S → (k.total ≡ h.total) × ((q : Ratio) → value_at_quantile k q ≡ value_at_quantile h q)

pub alike : BackStands → (greatest : ℕ) (h k : Plain) → IsPlain greatest h → IsReadBack h k → StandsAlike h k
alike law greatest h k plain back =
    λ S stands.
    let same = law.quantiles greatest h k S plain back stands in (
      law.samples greatest h k S plain back stands,
      record { classes = law.classes h k back; counts = ap (λ (c : Contents). c.counts) back.contents; total = same.0; quantiles = same.1 },
    )

-- ---- bytes

pub bytes_are_read : ReadsBack → (greatest taken : ℕ) (h k : Plain) (bytes : List ℕ) → IsPlain greatest h → IsV2 h bytes → IsReadAs greatest bytes k taken → IsReadBack h k
bytes_are_read law greatest taken h k bytes plain v2 read =
    law.histogram greatest taken h k bytes [] plain v2 (subst (λ text. IsReadAs greatest text k taken) (sym (append-nil bytes)) read)

have_contents : ReadsBack → (greatest : ℕ) (h : Plain) (bytes : List ℕ) → IsPlain greatest h → IsV2 h bytes → v2_at greatest bytes ≡ Ok (histogram_contents h, [])
have_contents law greatest h bytes plain v2 = subst (λ text. v2_at greatest text ≡ Ok (histogram_contents h, [])) (append-nil bytes) (law.contents greatest h bytes [] plain v2)

not_both : {A B : Type 0} (x : A) (e : B) → Ok x ≡ Err e → ⊥
not_both x e same = let f = same in cc

no_defect : {A : Type 0} (d : Option Defect) (r : Result A Defect) (x : A) → r ≡ Ok x → FailsBy d r → is_some d ≡ true → ⊥
no_defect None r x read fails some = let f = some in cc
no_defect (Some d) r x read fails some = not_both x d (sym read ∙ fails)

pub bytes_do_not_fail : ReadsBack → (greatest : ℕ) (h : Plain) (bytes : List ℕ) (e : DeserializeError) → IsPlain greatest h → IsV2 h bytes → FailsBy (defect_of_error e) (v2_at greatest bytes) → is_some (defect_of_error e) ≡ true → ⊥
bytes_do_not_fail law greatest h bytes e plain v2 fails some = no_defect (defect_of_error e) (v2_at greatest bytes) (histogram_contents h, []) (have_contents law greatest h bytes plain v2) fails some

-- ---- lines

-- the law of the log's reader on what was written
abbrev pub WrittenIsRead : Type 0
WrittenIsRead = (pieces : List Piece) → AllByRecursion IsPiece pieces → reading (text_of pieces) ≡ map is_read (flat_map entries_of_piece pieces)

abbrev pub Decodes : Type 0
Decodes = (bytes : List ℕ) → AreBytes bytes → base64_bytes (base64_of bytes) ≡ Some bytes

pub line_begins : WrittenIsRead → (tag : Option (List ℕ)) (start duration max : ℕ) (field text : List ℕ) → IsPiece (Measured tag start duration max field) → text ≡ piece_text (Measured tag start duration max field) → BeginsWith text (interval_of_piece tag start duration max field)
line_begins law tag start duration max field text piece is =
    let p = Measured tag start duration max field in
    ([], subst (λ t. reading t ≡ Ok (Span (interval_of_piece tag start duration max field)) ∷ []) (append-nil (piece_text p) ∙ sym is) (law (p ∷ []) (piece, tt)))

same_bytes : (field a b : List ℕ) → base64_bytes field ≡ Some a → base64_bytes field ≡ Some b → a ≡ b
same_bytes field a b p q = let e : Some a ≡ Some b = sym p ∙ q in cc

-- a log begins with one interval
same_first : (log : List ℕ) (i j : Interval) → BeginsWith log i → BeginsWith log j → i ≡ j
same_first log i j (more, p) (others, q) = let e : Ok (Span i) ∷ more ≡ Ok (Span j) ∷ others = sym p ∙ q in cc

-- what the line of an interval holds, and the field that was found in it
pub record Found (greatest : ℕ) (h : Plain) (field : List ℕ) : Type 0 where
  pub bytes : List ℕ
  pub plain : IsPlain greatest h
  pub v2 : IsV2 h bytes
  pub are : AreBytes bytes
  pub field_is : field ≡ base64_of bytes

pub found : WrittenIsRead → (greatest : ℕ) (h : Plain) (tag : Option (List ℕ)) (start duration divisor : ℕ) (text seen field : List ℕ) → IsPlain greatest h → IsIntervalText IsV2 h tag start duration divisor text → seen ≡ text → IsFirstField seen field → Found greatest h field
found law greatest h tag start duration divisor text seen field plain (bytes, v2, piece, is, are) same first =
    record {
      bytes = bytes;
      plain = plain;
      v2 = v2;
      are = are;
      field_is = first.2 ∙ ap (λ (i : Interval). i.field) (same_first seen first.0 (interval_of_piece tag (to_thousandths start) (to_thousandths duration) (max_thousandths (max_of h) divisor) (base64_of bytes)) first.1 (line_begins law tag (to_thousandths start) (to_thousandths duration) (max_thousandths (max_of h) divisor) (base64_of bytes) seen piece (same ∙ is)));
    }

pub none_first : WrittenIsRead → (h : Plain) (tag : Option (List ℕ)) (start duration divisor : ℕ) (text seen : List ℕ) → IsIntervalText IsV2 h tag start duration divisor text → seen ≡ text → BeginsWithNone seen → ⊥
none_first law h tag start duration divisor text seen (bytes, v2, piece, is, are) same none =
    none (interval_of_piece tag (to_thousandths start) (to_thousandths duration) (max_thousandths (max_of h) divisor) (base64_of bytes)) (line_begins law tag (to_thousandths start) (to_thousandths duration) (max_thousandths (max_of h) divisor) (base64_of bytes) seen piece (same ∙ is))

pub field_is_read : ReadsBack → Decodes → (greatest : ℕ) (h k : Plain) (field : List ℕ) → Found greatest h field → IsHeldIn greatest field k → IsReadBack h k
field_is_read law decodes greatest h k field f (held, decoded, taken, read) =
    let same : held ≡ f.bytes = same_bytes field held f.bytes decoded (ap base64_bytes f.field_is ∙ decodes f.bytes f.are) in
    bytes_are_read law greatest taken h k f.bytes f.plain f.v2 (subst (λ text. IsReadAs greatest text k taken) same read)

field_is_base64 : Decodes → (greatest : ℕ) (h : Plain) (field : List ℕ) → Found greatest h field → base64_bytes field ≡ None → ⊥
field_is_base64 decodes greatest h field f none = let e : None ≡ Some f.bytes = sym none ∙ (ap base64_bytes f.field_is ∙ decodes f.bytes f.are) in cc

field_does_not_fail : ReadsBack → Decodes → (greatest : ℕ) (h : Plain) (field : List ℕ) (e : DeserializeError) → Found greatest h field → (held : List ℕ) × (base64_bytes field ≡ Some held) × ReadsV2 greatest held (Err e) → ⊥
field_does_not_fail law decodes greatest h field e f (held, decoded, fails) =
    let same : held ≡ f.bytes = same_bytes field held f.bytes decoded (ap base64_bytes f.field_is ∙ decodes f.bytes f.are) in
    not_both (histogram_contents h, []) fails.0 (sym (have_contents law greatest h f.bytes f.plain f.v2) ∙ ap (v2_at greatest) (sym same) ∙ fails.2)

-- an error that decoding the field may have is neither of these
pub not_not_base64 : Decodes → (greatest : ℕ) (h : Plain) (field : List ℕ) (e : FieldDecodeError) → Found greatest h field → IsFieldDecodeError greatest field e → e ≡ NotBase64 → ⊥
not_not_base64 decodes greatest h field e f is same = field_is_base64 decodes greatest h field f (subst (λ (x : FieldDecodeError). IsFieldDecodeError greatest field x) same is)

pub not_decode : ReadsBack → Decodes → (greatest : ℕ) (h : Plain) (field : List ℕ) (e : FieldDecodeError) (cause : DeserializeError) → Found greatest h field → IsFieldDecodeError greatest field e → e ≡ Decode cause → ⊥
not_decode law decodes greatest h field e cause f is same = field_does_not_fail law decodes greatest h field cause f (subst (λ (x : FieldDecodeError). IsFieldDecodeError greatest field x) same is)
