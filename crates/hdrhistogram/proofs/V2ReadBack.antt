-- What was written is read back.
use Rattle.std.proofs.Common.{◌≡◌, ℕ, zero, suc, ◌+◌, ◌-◌, ◌*◌, ◌^◌, ◌<◌, ◌≤◌, true, false, ltb, leb, ◌&&◌, List, [], ◌∷◌, ◌++◌, length, take, drop, get_or, map, flat_map, replicate, sum, Option, Some, None, Result, Ok, refl, sym, ap, ◌∙◌, subst, arith, append_assoc, length-append, length-drop, length-take-le, ◌⊎◌, drop_at, ℤ, pos, negsuc, min, inl, inr}
use Rattle.std.specs.List.{AllByRecursion}
use Rattle.std.proofs.lemmas.Bool.{cases_lt, le-ltb, lt-leb, and_right}
use Rattle.std.proofs.lemmas.List.{length-replicate, get_or-take, get_or_past, ext_get_or}
use Rattle.std.proofs.lemmas.List.Elements.{recursion_from_All}
use Rattle.byteorder.specs.Endian.{big_number}
use Rattle.byteorder.specs.Numbers.{big_number-reads_back}
use Rattle.hdr_base.specs.Classes.{resolution_of}
use Rattle.hdr_model.specs.Plain.{Plain, IsPlain, max_of, min_nz_of}
use Rattle.hdr_model.specs.Marks.{IsTopMark, IsLowerMark, top_of_mark, value_of_mark}
use Rattle.hdr_model.specs.Equality.{same_plain}
use Rattle.hdr_model.proofs.PlainBins.{few-bins, mark-inside}
use Rattle.hdr_model.proofs.EqualityFacts.{parts-same}
use Rattle.hdrhistogram.specs.Varint.{number_of_spelling}
use Rattle.hdrhistogram.specs.ZigZag.{from_zig_zag}
use Rattle.hdrhistogram.specs.Payload.{Part, run, bin, bins_of, AreMaximal, number_of, AreSpelt, IsPayload}
use Rattle.hdrhistogram.specs.V2.{four, eight, header, written_bins, written_counts, IsV2}
use Rattle.hdrhistogram.specs.Defects.{Defect}
use Rattle.hdrhistogram.specs.PayloadRead.{Parted, split_spellings, numbers, bins_of_number, move, defect_at, or_else, first_defect, fit_bins, counts_or_defect, counts_in}
use Rattle.hdrhistogram.specs.V2Read.{Header, Contents, four_of, eight_of, four_at, eight_at, bytes_at, check_field, cookie_defect, offset_defect, sigfig_defect, ratio_defect, header_at, bounds_defect, bins_for, v2_at, histogram_contents, IsRestated, HasContents, IsReadAs}
use Rattle.hdrhistogram.proofs.VarintSpellings.{spelt_short}
use Rattle.hdrhistogram.proofs.V2Bins.{not-written}
use Rattle.hdrhistogram.proofs.V2Text.{length-four, length-eight}
use Rattle.hdrhistogram.proofs.V2SameBytes.{zig_back, low-fits}
use Rattle.hdrhistogram.proofs.PayloadReadFilling.{parted_spelling, length_fitted}
use Rattle.hdrhistogram.proofs.V2ReadHistogram.{bounds-yes, defect-none}

-- ---- the numbers of a payload

pub record Found (parts : List Part) (text : List ℕ) : Type 0 where
  pub texts : List (List ℕ)
  pub are : split_spellings 8 text ≡ record { texts = texts; rest = [] }
  pub each : numbers texts ≡ map number_of parts

found : (parts : List Part) (text : List ℕ) → AreSpelt parts text → Found parts text
unfolding split_spellings
found [] text e = record { texts = []; are = ap (split_spellings 8) e; each = refl }
found (part ∷ parts) text (first, rest, e, s, more) =
    let f = found parts rest more in
    let number : from_zig_zag (number_of_spelling 8 first) ≡ number_of part = ap from_zig_zag (sym s.spells.value) ∙ zig_back (number_of part) in
    record {
      texts = first ∷ f.texts;
      are = ap (split_spellings 8) e ∙ parted_spelling 8 first rest s.spells.whole ∙ ap (λ (p : Parted). record { texts = first ∷ p.texts; rest = p.rest }) f.are;
      each = ap (λ z. z ∷ numbers f.texts) number ∙ ap (λ l. number_of part ∷ l) f.each;
    }

pos_test : (bins p n : ℕ) → (0 < n → p < bins) → (ltb 0 n && leb bins p) ≡ false
pos_test bins p zero h = refl
pos_test bins p (suc n) h = and_right (ltb 0 (suc n)) (leb bins p) (lt-leb bins p (h (omega arith)))

pos_fine : (bins greatest p n : ℕ) → n ≤ greatest → (0 < n → p < bins) → p + 1 < 2 ^ 64 → defect_at bins greatest p (pos n) ≡ None
pos_fine bins greatest p n h k room = rw (le-ltb greatest n h, pos_test bins p n k, lt-leb (2 ^ 64) (p + 1) room) refl

neg_fine : (bins greatest p n : ℕ) → p + suc n < 2 ^ 64 → defect_at bins greatest p (negsuc n) ≡ None
neg_fine bins greatest p n room = rw (lt-leb (2 ^ 64) (p + suc n) room) refl

step_defect : (bins greatest place : ℕ) (n : ℤ) (tail : List ℤ) → defect_at bins greatest place n ≡ None → first_defect bins greatest place (n ∷ tail) ≡ first_defect bins greatest (place + move n) tail
unfolding first_defect
step_defect bins greatest place n tail fine = ap (λ f. or_else f (first_defect bins greatest (place + move n) tail)) fine

all_behind : (P : ℕ → Type 0) (xs ys : List ℕ) → AllByRecursion P (xs ++ ys) → AllByRecursion P ys
all_behind P [] ys h = h
all_behind P (x ∷ xs) ys h = all_behind P xs ys h.1

-- the numbers of a payload have no defect
fine_from : (parts : List Part) (p bins greatest : ℕ) → AreMaximal parts → p + length (flat_map bins_of parts) ≤ bins → bins < 2 ^ 63 → AllByRecursion (λ c. c ≤ greatest) (flat_map bins_of parts)
    → first_defect bins greatest p (map number_of parts) ≡ None
unfolding first_defect
fine_from [] p bins greatest m h k small = refl
fine_from (run zero ∷ parts) p bins greatest m h k small = absurd (omega (arith, m.0))
fine_from (run (suc zero) ∷ parts) p bins greatest m h k small =
    step_defect bins greatest p (pos 0) _ (pos_fine bins greatest p 0 (omega arith) (λ e. absurd (omega arith)) (omega arith))
    ∙ fine_from parts (p + 1) bins greatest m.2 (omega arith) k small.1
fine_from (run (suc (suc z)) ∷ parts) p bins greatest m h k small =
    let size = length-append (replicate (suc (suc z)) 0) (flat_map bins_of parts) in
    let run_size = length-replicate {A = ℕ} (suc (suc z)) 0 in
    step_defect bins greatest p (negsuc (suc z)) _ (neg_fine bins greatest p (suc z) (omega arith))
    ∙ fine_from parts (p + suc (suc z)) bins greatest m.2 (omega arith) k (all_behind _ (replicate (suc (suc z)) 0) (flat_map bins_of parts) small)
fine_from (bin c ∷ parts) p bins greatest m h k small =
    step_defect bins greatest p (pos c) _ (pos_fine bins greatest p c small.0 (λ e. omega arith) (omega arith))
    ∙ fine_from parts (p + 1) bins greatest m.1 (omega arith) k small.1

-- the bins that the numbers stand for are those of the parts
same_bins_read : (parts : List Part) → AreMaximal parts → flat_map bins_of_number (map number_of parts) ≡ flat_map bins_of parts
same_bins_read [] m = refl
same_bins_read (run zero ∷ parts) m = absurd (omega (arith, m.0))
same_bins_read (run (suc zero) ∷ parts) m = ap (λ l. 0 ∷ l) (same_bins_read parts m.2)
same_bins_read (run (suc (suc z)) ∷ parts) m = ap (λ l. replicate (suc (suc z)) 0 ++ l) (same_bins_read parts m.2)
same_bins_read (bin c ∷ parts) m = ap (λ l. c ∷ l) (same_bins_read parts m.1)

fitted_get : (bins : ℕ) (counts : List ℕ) (i : ℕ) → i < bins → get_or (fit_bins bins counts) i 0 ≡ get_or counts i 0
unfolding fit_bins
fitted_get zero counts i h = absurd (omega arith)
fitted_get (suc bins) [] zero h = refl
fitted_get (suc bins) [] (suc i) h = fitted_get bins [] i (omega arith)
fitted_get (suc bins) (n ∷ counts) zero h = refl
fitted_get (suc bins) (n ∷ counts) (suc i) h = fitted_get bins counts i (omega arith)

-- the written counts, with empty bins after, are all
fitted_written : (greatest : ℕ) (h : Plain) → IsPlain greatest h → fit_bins (length h.counts) (written_counts h) ≡ h.counts
fitted_written greatest h p =
    ext_get_or 0 (fit_bins (length h.counts) (written_counts h)) h.counts (length_fitted (length h.counts) (written_counts h)) (λ i lt.
    fitted_get (length h.counts) (written_counts h) i (omega (arith, length_fitted (length h.counts) (written_counts h))) ∙ got i (cases_lt i (written_bins h)))
  where
    got : (i : ℕ) → (i < written_bins h) ⊎ (written_bins h ≤ i) → get_or (written_counts h) i 0 ≡ get_or h.counts i 0
    got i (inl within) = get_or-take (written_bins h) h.counts i 0 within
    got i (inr later) = get_or_past (written_counts h) i 0 (omega (arith, length-take-le (written_bins h) h.counts (omega (arith, mark-inside greatest h p)))) ∙ sym (not-written greatest h i p later)

all_taken : (P : ℕ → Type 0) (n : ℕ) (xs : List ℕ) → AllByRecursion P xs → AllByRecursion P (take n xs)
all_taken P zero xs h = tt
all_taken P (suc n) [] h = tt
all_taken P (suc n) (x ∷ xs) h = (h.0, all_taken P n xs h.1)

-- a payload is read as the counts that it was written of
pub counts_again : (greatest : ℕ) (h : Plain) (text : List ℕ) → IsPlain greatest h → IsPayload (written_counts h) text → counts_in (length h.counts) greatest text ≡ Ok h.counts
unfolding counts_in
counts_again greatest h text p w =
    let bins = length h.counts in
    let f = found w.parts text w.spelt in
    let whole = w.split.whole in
    let size : length (written_counts h) ≡ written_bins h = length-take-le (written_bins h) h.counts (omega (arith, mark-inside greatest h p)) in
    let small : AllByRecursion (λ c. c ≤ greatest) (flat_map bins_of w.parts) = subst (AllByRecursion (λ c. c ≤ greatest)) (sym whole) (all_taken _ (written_bins h) h.counts (recursion_from_All _ h.counts p.numbers_fit)) in
    let none : first_defect bins greatest 0 (numbers f.texts) ≡ None
    = ap (first_defect bins greatest 0) f.each ∙ fine_from w.parts 0 bins greatest w.split.maximal (omega (arith, ap (length {A = ℕ}) whole, size, mark-inside greatest h p)) (omega (arith, few-bins greatest h p)) small in
    let counts : fit_bins bins (flat_map bins_of_number (numbers f.texts)) ≡ h.counts
    = ap (λ l. fit_bins bins (flat_map bins_of_number l)) f.each ∙ ap (fit_bins bins) (same_bins_read w.parts w.split.maximal ∙ whole) ∙ fitted_written greatest h p in
    ap (λ (q : Parted). counts_or_defect (first_defect bins greatest 0 (numbers q.texts)) q.rest (fit_bins bins (flat_map bins_of_number (numbers q.texts)))) f.are
    ∙ ap (λ (o : Option Defect). counts_or_defect o [] (fit_bins bins (flat_map bins_of_number (numbers f.texts)))) none ∙ ap Ok counts

-- ---- its length

spelt_length : (parts : List Part) (text : List ℕ) → AreMaximal parts → AreSpelt parts text → length text ≤ 9 * length (flat_map bins_of parts)
spelt_length [] text m e = omega (arith, ap (length {A = ℕ}) e)
spelt_length (run z ∷ parts) text m (first, rest, e, s, more) =
    omega (arith, m.0, spelt_length parts rest m.2 more, spelt_short _ first s.spells, ap (length {A = ℕ}) e, length-append first rest, length-append (replicate z 0) (flat_map bins_of parts), length-replicate {A = ℕ} z 0)
spelt_length (bin c ∷ parts) text m (first, rest, e, s, more) =
    omega (arith, spelt_length parts rest m.1 more, spelt_short _ first s.spells, ap (length {A = ℕ}) e, length-append first rest)

payload-length : (greatest : ℕ) (h : Plain) (text : List ℕ) → IsPlain greatest h → IsPayload (written_counts h) text → length text < 2 ^ 32
payload-length greatest h text p w =
    let size : length (written_counts h) ≡ written_bins h = length-take-le (written_bins h) h.counts (omega (arith, mark-inside greatest h p)) in
    omega (arith, spelt_length w.parts text w.split.maximal w.spelt, ap (length {A = ℕ}) w.split.whole, size, mark-inside greatest h p, few-bins greatest h p)

-- ---- the header

number_four : (n : ℕ) (rest : List ℕ) → n < 2 ^ 32 → big_number 4 (four n ++ rest) ≡ n
unfolding four
number_four n rest h = big_number-reads_back 4 n rest h

four_again : (n : ℕ) (rest : List ℕ) → n < 2 ^ 32 → four_at (four n ++ rest) ≡ Ok (n, rest)
unfolding four_at four_of
four_again n rest h =
    let long : ltb (length (four n ++ rest)) 4 ≡ false = le-ltb _ _ (omega (arith, length-append (four n) rest, length-four n)) in
    rw (long, number_four n rest h, drop_at (four n) rest 4 (length-four n)) refl

number_eight : (n : ℕ) (rest : List ℕ) → n < 2 ^ 64 → big_number 8 (eight n ++ rest) ≡ n
unfolding eight
number_eight n rest h = big_number-reads_back 8 n rest h

eight_again : (n : ℕ) (rest : List ℕ) → n < 2 ^ 64 → eight_at (eight n ++ rest) ≡ Ok (n, rest)
unfolding eight_at eight_of
eight_again n rest h =
    let long : ltb (length (eight n ++ rest)) 8 ≡ false = le-ltb _ _ (omega (arith, length-append (eight n) rest, length-eight n)) in
    rw (long, number_eight n rest h, drop_at (eight n) rest 8 (length-eight n)) refl

cookie_fine : cookie_defect 0x1c849313 ≡ None
unfolding cookie_defect
cookie_fine = refl

offset_fine : offset_defect 0 ≡ None
unfolding offset_defect
offset_fine = refl

ratio_fine : ratio_defect 0x3ff0000000000000 ≡ None
unfolding ratio_defect
ratio_fine = refl

sigfig_fine : (n : ℕ) → n ≤ 5 → sigfig_defect n ≡ None
unfolding sigfig_defect
sigfig_fine n h = rw (le-ltb 255 n (omega arith)) refl

checked_fine : (defect : ℕ → Option Defect) (r : Result (ℕ × List ℕ) Defect) (n : ℕ) (rest : List ℕ) → r ≡ Ok (n, rest) → defect n ≡ None → check_field defect r ≡ Ok (n, rest)
checked_fine defect r n rest e fine = rw e (rw fine refl)

abbrev head_of : Plain → ℕ → Header
head_of h len = record { payload_len = len; sigfig = h.sigfig; low = h.low; high = h.high }

header_again : (h : Plain) (len : ℕ) (rest : List ℕ) → len < 2 ^ 32 → h.sigfig ≤ 5 → h.low < 2 ^ 64 → h.high < 2 ^ 64 → header_at (header h len ++ rest) ≡ Ok (head_of h len, rest)
unfolding header_at
header_again h len rest few digits low high =
    let t7 = eight 0x3ff0000000000000 ++ rest in
    let t6 = eight h.high ++ t7 in
    let t5 = eight h.low ++ t6 in
    let t4 = four h.sigfig ++ t5 in
    let t3 = four 0 ++ t4 in
    let t2 = four len ++ t3 in
    let regrouped : header h len ++ rest ≡ four 0x1c849313 ++ t2 = simp append_assoc refl in
    let e1 = checked_fine cookie_defect (four_at (four 0x1c849313 ++ t2)) 0x1c849313 t2 (four_again 0x1c849313 t2 (omega arith)) cookie_fine in
    let e2 = four_again len t3 few in
    let e3 = checked_fine offset_defect (four_at t3) 0 t4 (four_again 0 t4 (omega arith)) offset_fine in
    let e4 = checked_fine sigfig_defect (four_at t4) h.sigfig t5 (four_again h.sigfig t5 (omega arith)) (sigfig_fine h.sigfig digits) in
    let e5 = eight_again h.low t6 low in
    let e6 = eight_again h.high t7 high in
    let e7 = checked_fine ratio_defect (eight_at t7) 0x3ff0000000000000 rest (eight_again 0x3ff0000000000000 rest (omega arith)) ratio_fine in
    ap header_at regrouped ∙ rw (e1, e2, e3, e4, e5, e6, e7) refl

-- ---- header and payload

bytes_again : (payload more : List ℕ) → bytes_at (length payload) (payload ++ more) ≡ Ok (payload, more)
unfolding bytes_at
bytes_again payload more =
    let long : ltb (length (payload ++ more)) (length payload) ≡ false = le-ltb _ _ (omega (arith, length-append payload more)) in
    rw (long, take_front payload more, drop_at payload more (length payload) refl) refl
  where
    take_front : (xs ys : List ℕ) → take (length xs) (xs ++ ys) ≡ xs
    take_front [] ys = refl
    take_front (x ∷ xs) ys = ap (λ l. x ∷ l) (take_front xs ys)

bounds_again : (greatest : ℕ) (h : Plain) (len : ℕ) → IsPlain greatest h → bounds_defect (head_of h len) ≡ None
bounds_again greatest h len p =
    defect-none (head_of h len) (bounds-yes h.low h.high h.sigfig (record { low_fits = omega (arith, p.wide, p.high_fits); wide = p.wide; scale = p.scale }))

-- what was written, with anything after it, is read back
pub v2_again : (greatest : ℕ) (h : Plain) (bytes more : List ℕ) → IsPlain greatest h → IsV2 h bytes → v2_at greatest (bytes ++ more) ≡ Ok (histogram_contents h, more)
unfolding v2_at
v2_again greatest h bytes more p v =
    let len = length v.payload in
    let regrouped : bytes ++ more ≡ header h len ++ (v.payload ++ more) = ap (λ l. l ++ more) v.text ∙ append_assoc (header h len) v.payload more in
    let head = header_again h len (v.payload ++ more) (payload-length greatest h v.payload p v.counts) p.scale.digits (low-fits greatest h p) p.high_fits in
    let bins : bins_for (head_of h len) ≡ length h.counts = sym (p.bins) in
    let counts : counts_in (bins_for (head_of h len)) greatest v.payload ≡ Ok h.counts = ap (λ n. counts_in n greatest v.payload) bins ∙ counts_again greatest h v.payload p v.counts in
    ap (v2_at greatest) regrouped ∙ rw (head, bounds_again greatest h len p, bytes_again v.payload more, counts) refl

-- ---- the histogram read back

pub top-unique : (counts : List ℕ) (a b : Option ℕ) → IsTopMark counts a → IsTopMark counts b → a ≡ b
top-unique counts None None p q = refl
top-unique counts None (Some n) p q = absurd (omega (arith, q.0, p n))
top-unique counts (Some m) None p q = absurd (omega (arith, p.0, q m))
top-unique counts (Some m) (Some n) p q = elim (cases_lt m n) [
  | inl lt ↦ absurd (omega (arith, q.0, p.1 n lt))
  | inr le ↦ elim (cases_lt n m) [ inl lt ↦ absurd (omega (arith, p.0, q.1 m lt)) | inr ge ↦ (let same : m ≡ n = omega arith in ap Some same) ]
]

pub lower-unique : (counts : List ℕ) (a b : Option ℕ) → IsLowerMark counts a → IsLowerMark counts b → a ≡ b
lower-unique counts None None p q = refl
lower-unique counts None (Some n) p q = absurd (omega (arith, q.1, p n q.0))
lower-unique counts (Some m) None p q = absurd (omega (arith, p.1, q m p.0))
lower-unique counts (Some m) (Some n) p q = elim (cases_lt m n) [
  | inl lt ↦ absurd (omega (arith, p.1, q.2 m p.0 lt))
  | inr le ↦ elim (cases_lt n m) [ inl lt ↦ absurd (omega (arith, q.1, p.2 n q.0 lt)) | inr ge ↦ (let same : m ≡ n = omega arith in ap Some same) ]
]

-- what is read back of what was written
pub read_back : (greatest taken : ℕ) (h k : Plain) (bytes more : List ℕ) → IsPlain greatest h → IsV2 h bytes → IsReadAs greatest (bytes ++ more) k taken → (taken ≡ length bytes) × HasContents (histogram_contents h) k
read_back greatest taken h k bytes more p v r =
    let again = v2_again greatest h bytes more p v in
    let both : ◌≡◌ {A = Contents × List ℕ} (histogram_contents h, more) (r.contents, drop taken (bytes ++ more)) = ok_is _ _ (sym again ∙ r.read) in
    let size : length more ≡ length (drop taken (bytes ++ more)) = ap (λ (x : Contents × List ℕ). length x.1) both in (
      omega (arith, size, length-drop taken (bytes ++ more), length-append bytes more, r.within),
      subst (λ c. HasContents c k) (sym (ap (λ (x : Contents × List ℕ). x.0) both)) r.histogram,
    )
  where
    ok_is : (x y : Contents × List ℕ) → ◌≡◌ {A = Result (Contents × List ℕ) Defect} (Ok x) (Ok y) → x ≡ y
    ok_is x y e = cc

max-by : (h k : Plain) → h.low ≡ k.low → h.sigfig ≡ k.sigfig → h.top_mark ≡ k.top_mark → max_of h ≡ max_of k
unfolding max_of
max-by h k low sigfig top = ap (λ l. top_of_mark (resolution_of l h.sigfig) h.top_mark) low ∙ ap (λ s. top_of_mark (resolution_of k.low s) h.top_mark) sigfig ∙ ap (top_of_mark (resolution_of k.low k.sigfig)) top

min-by : (h k : Plain) → h.low ≡ k.low → h.sigfig ≡ k.sigfig → h.lower_mark ≡ k.lower_mark → min_nz_of h ≡ min_nz_of k
unfolding min_nz_of
min-by h k low sigfig lower = ap (λ l. value_of_mark (resolution_of l h.sigfig) h.lower_mark) low ∙ ap (λ s. value_of_mark (resolution_of k.low s) h.lower_mark) sigfig ∙ ap (value_of_mark (resolution_of k.low k.sigfig)) lower

-- if the marks and the total are those of the numbers, it is equal to what was written
pub equal_back : (h k : Plain) → IsRestated h → HasContents (histogram_contents h) k → same_plain k h ≡ true
equal_back h k r c =
    let low : k.low ≡ h.low = ap (λ (t : Contents). t.low) c.contents in
    let sigfig : k.sigfig ≡ h.sigfig = ap (λ (t : Contents). t.sigfig) c.contents in
    let counts : k.counts ≡ h.counts = ap (λ (t : Contents). t.counts) c.contents in
    let total : k.total ≡ h.total = c.restated.total ∙ ap (λ l. min (sum l) (2 ^ 64 - 1)) counts ∙ sym r.total in
    let top : k.top_mark ≡ h.top_mark = top-unique h.counts k.top_mark h.top_mark (subst (λ l. IsTopMark l k.top_mark) counts c.restated.top_mark) r.top_mark in
    let lower : k.lower_mark ≡ h.lower_mark = lower-unique h.counts k.lower_mark h.lower_mark (subst (λ l. IsLowerMark l k.lower_mark) counts c.restated.lower_mark) r.lower_mark in
    parts-same k h (record { low = low; sigfig = sigfig; total = total; max = max-by k h low sigfig top; min_nz = min-by k h low sigfig lower; numbers = λ i. ap (λ l. get_or l i 0) counts })
