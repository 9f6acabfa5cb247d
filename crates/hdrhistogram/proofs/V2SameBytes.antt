-- What payloads and V2 bytes hold: the counts, and the histogram but for what they leave out.
use Rattle.std.proofs.Common.{◌≡◌, ℕ, zero, suc, ◌+◌, ◌*◌, ◌^◌, ◌<◌, List, [], ◌∷◌, ◌++◌, length, take, get_or, refl, sym, ap, ◌∙◌, subst, arith, length-append, length-take-le, ltb, flat_map, ℤ, pos, negsuc, inl, inr, ◌%◌}
use Rattle.std.proofs.lemmas.Bool.{cases_lt, eq-eqb, ne_eqb}
use Rattle.std.proofs.lemmas.List.{get_or-take, ext_get_or}
use Rattle.byteorder.specs.Endian.{big_from}
use Rattle.byteorder.specs.Numbers.{big_number-reads_back}
use Rattle.hdr_base.specs.Classes.{resolution_of, bins_to, unit_of}
use Rattle.hdr_base.proofs.ClassesLeast.{least_from-passes}
use Rattle.hdr_base.proofs.ClassesLaws.{below_own_power, ltb-from, ltb-to, pow_mono_le}
use Rattle.hdr_base.proofs.ClassesDigits.{digits-pos}
use Rattle.hdr_model.specs.Plain.{Plain, IsPlain}
use Rattle.hdrhistogram.specs.Varint.{IsShortest}
use Rattle.hdrhistogram.specs.ZigZag.{zig_zag, from_zig_zag}
use Rattle.hdrhistogram.specs.Payload.{Part, run, bin, bins_of, AreMaximal, number_of, AreSpelt, IsPayload}
use Rattle.hdrhistogram.specs.V2.{four, eight, header, written_bins, written_counts, IsV2, IsWrittenAlike}
use Rattle.hdrhistogram.proofs.VarintSpellings.{one_spelling_of, one_shortest, some_byte}
use Rattle.hdrhistogram.proofs.PayloadWriting.{one_split}
use Rattle.hdr_model.proofs.PlainBins.{mark-inside}
use Rattle.hdrhistogram.proofs.V2Bins.{not-written}
use Rattle.hdrhistogram.proofs.V2Text.{length-four, length-eight, length-header}

-- ---- one payload

spelt_once : (parts : List Part) (a b : List ℕ) → AreSpelt parts a → AreSpelt parts b → a ≡ b
spelt_once [] a b p q = p ∙ sym q
spelt_once (part ∷ parts) a b (f, r, e, s, more) (f', r', e', s', more') =
    let first : f ≡ f' = one_shortest (zig_zag (number_of part)) f f' s s' in
    let rest : r ≡ r' = spelt_once parts r r' more more' in
    cc

-- counts have one payload
pub one_text : (counts a b : List ℕ) → IsPayload counts a → IsPayload counts b → a ≡ b
one_text counts a b p q = spelt_once q.parts a b (subst (λ parts. AreSpelt parts a) (one_split counts p.parts q.parts p.split q.split) p.spelt) q.spelt

-- ---- one list of counts

pub zig_back : (z : ℤ) → from_zig_zag (zig_zag z) ≡ z
zig_back (pos n) = rw (eq-eqb ((2 * n) % 2) 0 (omega arith)) (ap pos (omega arith))
zig_back (negsuc n) = rw (ne_eqb ((2 * n + 1) % 2) 0 (omega arith)) (ap negsuc (omega arith))

IsFull : Part → Type 0
IsFull (run z) = 0 < z
IsFull (bin c) = 0 < c

full_first : (part : Part) (parts : List Part) → AreMaximal (part ∷ parts) → IsFull part × AreMaximal parts
unfolding IsFull
full_first (run z) parts m = (m.0, m.2)
full_first (bin c) parts m = (m.0, m.1)

-- a number encodes one part
one_part : (a b : Part) → IsFull a → IsFull b → number_of a ≡ number_of b → a ≡ b
unfolding IsFull
one_part (run zero) b h k e = absurd (omega arith)
one_part a (run zero) h k e = absurd (omega arith)
one_part (run (suc zero)) (run (suc zero)) h k e = refl
one_part (run (suc zero)) (run (suc (suc y))) h k e = cc
one_part (run (suc (suc z))) (run (suc zero)) h k e = cc
one_part (run (suc (suc z))) (run (suc (suc y))) h k e = cc
one_part (run (suc zero)) (bin c) h k e = let none : 0 ≡ c = cc in absurd (omega arith)
one_part (run (suc (suc z))) (bin c) h k e = cc
one_part (bin c) (run (suc zero)) h k e = let none : c ≡ 0 = cc in absurd (omega arith)
one_part (bin c) (run (suc (suc y))) h k e = cc
one_part (bin c) (bin d) h k e = cc

append_cancel : (u x y : List ℕ) → u ++ x ≡ u ++ y → x ≡ y
append_cancel [] x y e = e
append_cancel (b ∷ u) x y e = let rest : u ++ x ≡ u ++ y = cc in append_cancel u x y rest

no_first : (first rest text : List ℕ) (n : ℕ) → IsShortest first n → text ≡ first ++ rest → text ≡ [] → ⊥
no_first first rest text n s e none = omega (arith, some_byte 8 first s.spells.whole, ap (length {A = ℕ}) (sym e ∙ none), length-append first rest)

-- a text encodes one list of parts
one_list : (a b : List Part) (text : List ℕ) → AreMaximal a → AreMaximal b → AreSpelt a text → AreSpelt b text → a ≡ b
one_list [] [] text m n p q = refl
one_list [] (y ∷ b) text m n p (f, r, e, s, more) = absurd (no_first f r text _ s e p)
one_list (x ∷ a) [] text m n (f, r, e, s, more) q = absurd (no_first f r text _ s e q)
one_list (x ∷ a) (y ∷ b) text m n (f, r, e, s, more) (f', r', e', s', more') =
    let xs = full_first x a m in
    let ys = full_first y b n in
    let joined : f ++ r ≡ f' ++ r' = sym e ∙ e' in
    let both = one_spelling_of f f' r r' _ _ s.spells s'.spells joined in
    let number : number_of x ≡ number_of y = sym (zig_back (number_of x)) ∙ ap from_zig_zag both.1 ∙ zig_back (number_of y) in
    let first : x ≡ y = one_part x y xs.0 ys.0 number in
    let rest : r ≡ r' = append_cancel f r r' (joined ∙ ap (λ l. l ++ r') (sym both.0)) in
    let parts : a ≡ b = one_list a b r' xs.1 ys.1 (subst (AreSpelt a) rest more) more' in
    cc

-- a payload encodes one list of counts
pub one_counts : (counts other text : List ℕ) → IsPayload counts text → IsPayload other text → counts ≡ other
one_counts counts other text p q =
    sym p.split.whole ∙ ap (flat_map bins_of) (one_list p.parts q.parts text p.split.maximal q.split.maximal p.spelt q.spelt) ∙ q.split.whole

-- ---- the header

fronts : (x y u v : List ℕ) → length x ≡ length y → x ++ u ≡ y ++ v → (x ≡ y) × (u ≡ v)
fronts [] [] u v h e = (refl, e)
fronts [] (b ∷ y) u v h e = absurd (omega arith)
fronts (a ∷ x) [] u v h e = absurd (omega arith)
fronts (a ∷ x) (b ∷ y) u v h e =
    let first : a ≡ b = cc in
    let rest : x ++ u ≡ y ++ v = cc in
    let more = fronts x y u v (omega arith) rest in
    let front = more.0 in
    (cc, more.1)

one_four : (m n : ℕ) → m < 2 ^ 32 → n < 2 ^ 32 → four m ≡ four n → m ≡ n
unfolding four
one_four m n h k e = sym (big_number-reads_back 4 m [] h) ∙ ap (λ l. big_from 0 4 (l ++ [])) e ∙ big_number-reads_back 4 n [] k

one_eight : (m n : ℕ) → m < 2 ^ 64 → n < 2 ^ 64 → eight m ≡ eight n → m ≡ n
unfolding eight
one_eight m n h k e = sym (big_number-reads_back 8 m [] h) ∙ ap (λ l. big_from 0 8 (l ++ [])) e ∙ big_number-reads_back 8 n [] k

-- a number of four bytes at the end, and one of eight
last_four : (x y : List ℕ) (m n : ℕ) → x ++ four m ≡ y ++ four n → (x ≡ y) × (four m ≡ four n)
last_four x y m n e = fronts x y (four m) (four n) (omega (arith, ap (length {A = ℕ}) e, length-append x (four m), length-append y (four n), length-four m, length-four n)) e

last_eight : (x y : List ℕ) (m n : ℕ) → x ++ eight m ≡ y ++ eight n → (x ≡ y) × (eight m ≡ eight n)
last_eight x y m n e = fronts x y (eight m) (eight n) (omega (arith, ap (length {A = ℕ}) e, length-append x (eight m), length-append y (eight n), length-eight m, length-eight n)) e

-- the fields of a header
record IsHeadedAlike (h k : Plain) : Type 0 where
  low : eight h.low ≡ eight k.low
  high : eight h.high ≡ eight k.high
  sigfig : four h.sigfig ≡ four k.sigfig

one_header : (h k : Plain) (m n : ℕ) → header h m ≡ header k n → IsHeadedAlike h k
one_header h k m n e =
    let ratio = last_eight _ _ 0x3ff0000000000000 0x3ff0000000000000 e in
    let high = last_eight _ _ h.high k.high ratio.0 in
    let low = last_eight _ _ h.low k.low high.0 in
    let sigfig = last_four _ _ h.sigfig k.sigfig low.0 in
    record { low = low.1; high = high.1; sigfig = sigfig.1 }

-- ---- the histogram

low-below : (low : ℕ) → low < 2 ^ (unit_of low + 1)
unfolding unit_of
low-below low =
    let p = λ (u : ℕ). ltb low (2 ^ (u + 1)) in
    ltb-to _ _ (least_from-passes p low 0 low (omega arith) (omega arith) (ltb-from _ _ (omega (arith, below_own_power low, pow_mono_le low (low + 1) (omega arith)))))

pub low-fits : (greatest : ℕ) (h : Plain) → IsPlain greatest h → h.low < 2 ^ 64
low-fits greatest h p = omega (arith, low-below h.low, pow_mono_le (unit_of h.low + 1) 64 (omega (arith, p.scale.fits, digits-pos h.sigfig)))

same_length : (f g : ℕ) (h k : Plain) → IsPlain f h → IsPlain g k → h.low ≡ k.low → h.high ≡ k.high → h.sigfig ≡ k.sigfig → length h.counts ≡ length k.counts
same_length f g h k p q low high sigfig =
    p.bins ∙ ap (λ l. bins_to (resolution_of l h.sigfig) h.high) low ∙ ap (λ s. bins_to (resolution_of k.low s) h.high) sigfig ∙ ap (bins_to (resolution_of k.low k.sigfig)) high ∙ sym q.bins

length_written : (greatest : ℕ) (h : Plain) → IsPlain greatest h → length (written_counts h) ≡ written_bins h
length_written greatest h p = length-take-le (written_bins h) h.counts (omega (arith, mark-inside greatest h p))

-- if the written counts agree and the bins are as many, all counts agree
same_counts : (f g : ℕ) (h k : Plain) → IsPlain f h → IsPlain g k → length h.counts ≡ length k.counts → written_counts h ≡ written_counts k → h.counts ≡ k.counts
same_counts f g h k p q size e =
    let top : written_bins h ≡ written_bins k = sym (length_written f h p) ∙ ap (length {A = ℕ}) e ∙ length_written g k q in
    ext_get_or 0 h.counts k.counts size (λ i lt. elim (cases_lt i (written_bins h)) [
      | inl within ↦ sym (get_or-take (written_bins h) h.counts i 0 within) ∙ ap (λ l. get_or l i 0) e ∙ get_or-take (written_bins k) k.counts i 0 (omega (arith, within, top))
      | inr later ↦ not-written f h i p later ∙ sym (not-written g k i q (omega (arith, later, top)))
    ])

-- bytes that agree are those of histograms that are written alike
pub contents_agree : (f g : ℕ) (h k : Plain) (a b : List ℕ) → IsPlain f h → IsPlain g k → IsV2 h a → IsV2 k b → a ≡ b → IsWrittenAlike h k
contents_agree f g h k a b p q v w e =
    let halves = fronts (header h (length v.payload)) (header k (length w.payload)) v.payload w.payload (length-header h _ ∙ sym (length-header k _)) (sym v.text ∙ e ∙ w.text) in
    let fields = one_header h k _ _ halves.0 in
    let low : h.low ≡ k.low = one_eight h.low k.low (low-fits f h p) (low-fits g k q) fields.low in
    let high : h.high ≡ k.high = one_eight h.high k.high p.high_fits q.high_fits fields.high in
    let sigfig : h.sigfig ≡ k.sigfig = one_four h.sigfig k.sigfig (omega (arith, p.scale.digits)) (omega (arith, q.scale.digits)) fields.sigfig in
    let counts : written_counts h ≡ written_counts k = one_counts _ _ w.payload (subst (IsPayload (written_counts h)) halves.1 v.counts) w.counts in
    let top : written_bins h ≡ written_bins k = sym (length_written f h p) ∙ ap (length {A = ℕ}) counts ∙ length_written g k q in
    record {
      low = low;
      high = high;
      sigfig = sigfig;
      counts = same_counts f g h k p q (same_length f g h k p q low high sigfig) counts;
      top_class = omega (arith, top);
    }

-- histograms that are written alike have the same bytes
pub alike : (h k : Plain) (a b : List ℕ) → IsV2 h a → IsV2 k b → IsWrittenAlike h k → a ≡ b
alike h k a b v w e =
    let counts : written_counts h ≡ written_counts k = ap (λ n. take (n + 1) h.counts) e.top_class ∙ ap (take (written_bins k)) e.counts in
    let payload : v.payload ≡ w.payload = one_text (written_counts k) v.payload w.payload (subst (λ l. IsPayload l v.payload) counts v.counts) w.counts in
    let heads : header h (length v.payload) ≡ header k (length w.payload) = same_header (length v.payload) (length w.payload) (ap (length {A = ℕ}) payload) in
    v.text ∙ ap (λ l. l ++ v.payload) heads ∙ ap (λ l. header k (length w.payload) ++ l) payload ∙ sym w.text
  where
    same_header : (m n : ℕ) → m ≡ n → header h m ≡ header k n
    same_header m n size = let low = e.low in let high = e.high in let sigfig = e.sigfig in rw (size, low, high, sigfig) refl
