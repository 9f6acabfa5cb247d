-- A payload has exactly one split into varints and a rest.
use Rattle.std.proofs.Common.{◌≡◌, ℕ, zero, suc, ◌<◌, ◌≤◌, Bool, true, false, List, [], ◌∷◌, ◌++◌, length, refl, sym, ap, ◌∙◌, subst, arith, append_assoc, length-append, ltb, flat_map, ◌⊎◌, inl, inr}
use Rattle.std.proofs.lemmas.Bool.{ltb-false}
use Rattle.std.specs.List.{AllByRecursion}
use Rattle.hdrhistogram.specs.Varint.{IsSpelling}
use Rattle.hdrhistogram.specs.PayloadRead.{Parted, split_spellings, AreSpellings}
use Rattle.hdrhistogram.proofs.PayloadReadFilling.{parted_spelling, parted_rest}

-- ---- a payload has varints and a rest

record Front (left : ℕ) (bytes : List ℕ) : Type 0 where
  text : List ℕ
  rest : List ℕ
  spelling : IsSpelling left text
  whole : bytes ≡ text ++ rest
  some : 0 < length text

CutAt : ℕ → List ℕ → Type 0
CutAt left bytes = (length bytes ≤ left) × AllByRecursion (λ b. 128 ≤ b) bytes

front_more : (t : Bool) (left b : ℕ) (bytes : List ℕ) → ltb b 128 ≡ t → Front left bytes ⊎ CutAt left bytes → Front (suc left) (b ∷ bytes) ⊎ CutAt (suc left) (b ∷ bytes)
unfolding IsSpelling CutAt
front_more true left b bytes e either = inl (record { text = b ∷ []; rest = bytes; spelling = rw e refl; whole = refl; some = omega arith })
front_more false left b bytes e (inl f) = inl (record { text = b ∷ f.text; rest = f.rest; spelling = rw e f.spelling; whole = ap (λ l. b ∷ l) f.whole; some = omega arith })
front_more false left b bytes e (inr h) = inr (omega (arith, h.0), (ltb-false b 128 e, h.1))

front_of : (left : ℕ) (bytes : List ℕ) → Front left bytes ⊎ CutAt left bytes
unfolding IsSpelling CutAt
front_of left [] = inr (omega arith, tt)
front_of zero (b ∷ bytes) = inl (record { text = b ∷ []; rest = bytes; spelling = refl; whole = refl; some = omega arith })
front_of (suc left) (b ∷ bytes) = front_more (ltb b 128) left b bytes refl (front_of left bytes)

record Split (payload : List ℕ) : Type 0 where
  texts : List (List ℕ)
  rest : List ℕ
  are : AreSpellings payload texts rest

split_more : (bytes : List ℕ) (f : Front 8 bytes) → Split f.rest → Split bytes
split_more bytes f s = record {
  texts = f.text ∷ s.texts;
  rest = s.rest;
  are = record {
    whole = f.whole ∙ ap (λ l. f.text ++ l) s.are.whole ∙ sym (append_assoc f.text _ _);
    each = (f.spelling, s.are.each);
    cut = s.are.cut;
  };
}

split_either : (bytes : List ℕ) → ((f : Front 8 bytes) → Split f.rest) → Front 8 bytes ⊎ CutAt 8 bytes → Split bytes
unfolding CutAt
split_either bytes again (inl f) = split_more bytes f (again f)
split_either bytes again (inr h) = record { texts = []; rest = bytes; are = record { whole = refl; each = tt; cut = record { short = h.0; high = h.1 } } }

split_by : (n : ℕ) (bytes : List ℕ) → length bytes ≤ n → Split bytes
split_by zero bytes h = split_either bytes (λ f. absurd (omega (arith, f.some, simp length-append at (ap length f.whole)))) (front_of 8 bytes)
split_by (suc n) bytes h = split_either bytes (λ f. split_by n f.rest (omega (arith, f.some, simp length-append at (ap length f.whole)))) (front_of 8 bytes)

-- ---- and they are its split

texts_parted : (texts : List (List ℕ)) (rest : List ℕ) → AllByRecursion (IsSpelling 8) texts → length rest ≤ 8 → AllByRecursion (λ b. 128 ≤ b) rest → split_spellings 8 (flat_map (λ t. t) texts ++ rest) ≡ record { texts = texts; rest = rest }
texts_parted [] rest each few high = parted_rest 8 rest few high
texts_parted (text ∷ texts) rest each few high =
    ap (split_spellings 8) (append_assoc text (flat_map (λ t. t) texts) rest) ∙ parted_spelling 8 text (flat_map (λ t. t) texts ++ rest) each.0
    ∙ ap (λ (p : Parted). record { texts = text ∷ p.texts; rest = p.rest }) (texts_parted texts rest each.1 few high)

pub parted_only : (payload rest : List ℕ) (texts : List (List ℕ)) → AreSpellings payload texts rest → split_spellings 8 payload ≡ record { texts = texts; rest = rest }
parted_only payload rest texts s = ap (split_spellings 8) s.whole ∙ texts_parted texts rest s.each s.cut.short s.cut.high

pub parted_are : (payload : List ℕ) → AreSpellings payload (split_spellings 8 payload).texts (split_spellings 8 payload).rest
parted_are payload =
    let s = split_by (length payload) payload (omega arith) in
    subst (λ (p : Parted). AreSpellings payload p.texts p.rest) (sym (parted_only payload s.rest s.texts s.are)) s.are
