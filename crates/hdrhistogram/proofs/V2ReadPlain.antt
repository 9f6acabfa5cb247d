-- Bytes decode to a histogram, or have a defect.
use Rattle.std.proofs.Common.{◌≡◌, ℕ, zero, suc, ◌+◌, ◌*◌, ◌-◌, ◌^◌, ◌<◌, ◌≤◌, nat_lt, nat_le, ◌&&◌, Bool, true, false, cond, List, [], ◌∷◌, ◌++◌, length, drop, slice_index, min, sum, Option, Some, None, Result, Ok, Err, ℤ, pos, negsuc, refl, sym, ap, ◌∙◌, subst, arith, flat_map, replicate}
use Rattle.std.proofs.lemmas.Bool.{ltb-true, leb-true}
use Rattle.std.proofs.lemmas.List.{get_or-drop}
use Rattle.std.specs.List.{AllByRecursion, All}
use Rattle.hdr_base.specs.Classes.{unit_of, digits_of, resolution_of}
use Rattle.hdr_model.specs.CallErrors.{IsBounds}
use Rattle.hdr_model.specs.Marks.{IsTopMark, IsLowerMark}
use Rattle.hdr_model.specs.Plain.{Plain, IsPlain}
use Rattle.hdr_model.specs.Unfinished.{AreBinsFor}
use Rattle.hdr_model.proofs.UnfinishedFacts.{closed-plain}
use Rattle.hdrhistogram.specs.Defects.{Defect, cut, other_cookie, unsupported, bad_bounds, too_great, past_bins, too_far, unless, defect_of_error}
use Rattle.hdrhistogram.specs.PayloadRead.{split_spellings, numbers, bins_of_number, defect_at, or_else, first_defect, fit_bins, counts_or_defect, counts_in}
use Rattle.hdrhistogram.specs.V2Read.{four_of, eight_of, four_at, eight_at, bytes_at, check_field, cookie_defect, offset_defect, sigfig_defect, ratio_defect, Header, header_at, are_bounds, bounds_defect, bins_for, Contents, contents_of, v2_at, histogram_contents, IsRestated, IsReadAs, ReadsV2}
use Rattle.hdrhistogram.specs.declared.serialization.errors.DeserializeError.{DeserializeError}
use Rattle.hdrhistogram.specs.declared.serialization.errors.DeserializeError.TheVariants as errors
use Rattle.hdrhistogram.proofs.PayloadReadFilling.{length_fitted}
use Rattle.hdrhistogram.proofs.V2ReadHeader.{bind_ok, checked_is}
use Rattle.hdrhistogram.proofs.V2ReadHistogram.{defect-none, defect-some, is-read}

-- ---- marks of numbers

top_of_numbers : (ns : List ℕ) → (mark : Option ℕ) × IsTopMark ns mark
top_of_numbers [] = (None, λ i. refl)
top_of_numbers (n ∷ ns) = after n (top_of_numbers ns)
  where
    after : (n : ℕ) → (mark : Option ℕ) × IsTopMark ns mark → (mark : Option ℕ) × IsTopMark (n ∷ ns) mark
    after n (Some m, top) = (Some (suc m), (top.0, later))
      where
        later : (i : ℕ) → suc m < i → slice_index (n ∷ ns) i ≡ 0
        later zero l = absurd (omega (arith, l))
        later (suc i) l = top.1 i (omega (arith, l))
    after zero (None, top) = (None, every)
      where
        every : (i : ℕ) → slice_index (0 ∷ ns) i ≡ 0
        every zero = refl
        every (suc i) = top i
    after (suc k) (None, top) = (Some 0, (omega arith, later))
      where
        later : (i : ℕ) → 0 < i → slice_index (suc k ∷ ns) i ≡ 0
        later zero l = absurd (omega (arith, l))
        later (suc i) l = top i

-- the index of the first number above 0
abbrev IsFirst : List ℕ → Option ℕ → Type 0
IsFirst ns None = (i : ℕ) → slice_index ns i ≡ 0
IsFirst ns (Some m) = (0 < slice_index ns m) × ((i : ℕ) → i < m → slice_index ns i ≡ 0)

first_of_numbers : (ns : List ℕ) → (mark : Option ℕ) × IsFirst ns mark
first_of_numbers [] = (None, λ i. refl)
first_of_numbers (suc k ∷ ns) = (Some 0, (omega arith, λ i l. absurd (omega (arith, l))))
first_of_numbers (zero ∷ ns) = after (first_of_numbers ns)
  where
    after : (mark : Option ℕ) × IsFirst ns mark → (mark : Option ℕ) × IsFirst (0 ∷ ns) mark
    after (Some m, first) = (Some (suc m), (first.0, before))
      where
        before : (i : ℕ) → i < suc m → slice_index (0 ∷ ns) i ≡ 0
        before zero l = refl
        before (suc i) l = first.1 i (omega (arith, l))
    after (None, first) = (None, every)
      where
        every : (i : ℕ) → slice_index (0 ∷ ns) i ≡ 0
        every zero = refl
        every (suc i) = first i

lower_of_numbers : (ns : List ℕ) → (mark : Option ℕ) × IsLowerMark ns mark
lower_of_numbers [] = (None, λ i l. refl)
lower_of_numbers (n ∷ ns) = after (first_of_numbers ns)
  where
    after : (mark : Option ℕ) × IsFirst ns mark → (mark : Option ℕ) × IsLowerMark (n ∷ ns) mark
    after (Some m, first) = (Some (suc m), (omega arith, first.0, between))
      where
        between : (i : ℕ) → 0 < i → i < suc m → slice_index (n ∷ ns) i ≡ 0
        between zero a l = absurd (omega (arith, a))
        between (suc i) a l = first.1 i (omega (arith, l))
    after (None, first) = (None, every)
      where
        every : (i : ℕ) → 0 < i → slice_index (n ∷ ns) i ≡ 0
        every zero l = absurd (omega (arith, l))
        every (suc i) l = first i

-- ---- the counts of a payload

abbrev UpTo : ℕ → ℕ → Type 0
UpTo most n = n ≤ most

all_at : (most : ℕ) (ns : List ℕ) → AllByRecursion (UpTo most) ns → All (UpTo most) ns
all_at most [] all k d l = absurd (omega (arith, l))
all_at most (n ∷ ns) all zero d l = all.0
all_at most (n ∷ ns) all (suc k) d l = all_at most ns all.1 k d (omega (arith, l))

both_up : (most : ℕ) (xs ys : List ℕ) → AllByRecursion (UpTo most) xs → AllByRecursion (UpTo most) ys → AllByRecursion (UpTo most) (xs ++ ys)
both_up most [] ys a b = b
both_up most (x ∷ xs) ys a b = (a.0, both_up most xs ys a.1 b)

zeros_up : (most n : ℕ) → AllByRecursion (UpTo most) (replicate n 0)
zeros_up most zero = tt
zeros_up most (suc n) = (omega arith, zeros_up most n)

fitted_up : (most bins : ℕ) (ns : List ℕ) → AllByRecursion (UpTo most) ns → AllByRecursion (UpTo most) (fit_bins bins ns)
unfolding fit_bins
fitted_up most zero ns all = tt
fitted_up most (suc bins) [] all = (omega arith, fitted_up most bins [] tt)
fitted_up most (suc bins) (n ∷ ns) all = (all.0, fitted_up most bins ns all.1)

no_defect : (x y : Option Defect) → or_else x y ≡ None → (x ≡ None) × (y ≡ None)
no_defect None y e = (refl, e)
no_defect (Some f) y e = absurd (let g = e in cc)

not_above : (most n : ℕ) → nat_lt most n ≡ false → n ≤ most
not_above most n h = grind arith

unless_above : (most n : ℕ) (b : Bool) (o : Option Defect) → nat_lt most n ≡ b → cond b (Some too_great) o ≡ None → n ≤ most
unless_above most n true o h e = absurd (let g = e in cc)
unless_above most n false o h e = not_above most n h

one_up : (bins most place n : ℕ) → defect_at bins most place (pos n) ≡ None → n ≤ most
one_up bins most place n e = unless_above most n (nat_lt most n) _ refl e

numbers_up : (bins most place : ℕ) (ns : List ℤ) → first_defect bins most place ns ≡ None → AllByRecursion (UpTo most) (flat_map bins_of_number ns)
unfolding first_defect
numbers_up bins most place [] e = tt
numbers_up bins most place (pos n ∷ ns) e =
    let a = no_defect (defect_at bins most place (pos n)) _ e in (one_up bins most place n a.0, numbers_up bins most (place + 1) ns a.1)
numbers_up bins most place (negsuc n ∷ ns) e =
    let a = no_defect (defect_at bins most place (negsuc n)) _ e in
    both_up most (replicate (suc n) 0) (flat_map bins_of_number ns) (zeros_up most (suc n)) (numbers_up bins most (place + suc n) ns a.1)

counts_are : (o : Option Defect) (rest counts found : List ℕ) → counts_or_defect o rest counts ≡ Ok found → (o ≡ None) × (found ≡ counts)
counts_are (Some f) rest counts found e = absurd (let g = e in cc)
counts_are None [] counts found e = (refl, cc)
counts_are None (b ∷ rest) counts found e = absurd (let g = e in cc)

record AreCounts (bins most : ℕ) (counts : List ℕ) : Type 0 where
  long : length counts ≡ bins
  up : AllByRecursion (UpTo most) counts

payload_counts : (bins most : ℕ) (payload counts : List ℕ) → counts_in bins most payload ≡ Ok counts → AreCounts bins most counts
unfolding counts_in
payload_counts bins most payload counts e =
    let ns = numbers (split_spellings 8 payload).texts in
    let found = flat_map bins_of_number ns in
    let a = counts_are (first_defect bins most 0 ns) (split_spellings 8 payload).rest (fit_bins bins found) counts e in
    let up : AllByRecursion (UpTo most) (fit_bins bins found) = fitted_up most bins found (numbers_up bins most 0 ns a.0) in
    record { long = ap (length {A = ℕ}) a.1 ∙ length_fitted bins found; up = subst (λ l. AllByRecursion (UpTo most) l) (sym a.1) up }

-- ---- the header

abbrev AreBytes : List ℕ → Type 0
AreBytes text = (i : ℕ) → slice_index text i < 256

dropped : (n : ℕ) (text : List ℕ) → AreBytes text → AreBytes (drop n text)
dropped n text are i = subst (λ x. x < 256) (sym (get_or-drop n text i 0)) (are (n + i))

pick : (b : Bool) (x f : ℕ × List ℕ) → cond b (Err cut) (Ok x) ≡ Ok f → f ≡ x
pick true x f e = absurd (let g = e in cc)
pick false x f e = cc

four_rest : (text : List ℕ) (f : ℕ × List ℕ) → four_at text ≡ Ok f → AreBytes text → AreBytes f.1
unfolding four_at
four_rest text f e are = subst (λ (x : ℕ × List ℕ). AreBytes x.1) (sym (pick (nat_lt (length text) 4) (four_of text, drop 4 text) f e)) (dropped 4 text are)

eight_rest : (text : List ℕ) (f : ℕ × List ℕ) → eight_at text ≡ Ok f → AreBytes text → AreBytes f.1
unfolding eight_at
eight_rest text f e are = subst (λ (x : ℕ × List ℕ). AreBytes x.1) (sym (pick (nat_lt (length text) 8) (eight_of text, drop 8 text) f e)) (dropped 8 text are)

eight_small : (text : List ℕ) → AreBytes text → eight_of text < 2 ^ 64
unfolding eight_of
eight_small text are = omega (arith, are 0, are 1, are 2, are 3, are 4, are 5, are 6, are 7)

eight_fits : (text : List ℕ) (f : ℕ × List ℕ) → eight_at text ≡ Ok f → AreBytes text → f.0 < 2 ^ 64
unfolding eight_at
eight_fits text f e are = subst (λ (x : ℕ × List ℕ). x.0 < 2 ^ 64) (sym (pick (nat_lt (length text) 8) (eight_of text, drop 8 text) f e)) (eight_small text are)

high_of : (h : Header) (f : Header × List ℕ) (rest : List ℕ) → ◌≡◌ {A = Result (Header × List ℕ) Defect} (Ok (h, rest)) (Ok f) → f.0.high ≡ h.high
high_of h f rest e = cc

high_fits : (text : List ℕ) (f : Header × List ℕ) → header_at text ≡ Ok f → AreBytes text → f.0.high < 2 ^ 64
unfolding header_at
high_fits text f e are =
    let (cookie, ec, e1) = bind_ok (check_field cookie_defect (four_at text)) _ f e in
    let a1 = four_rest text cookie (checked_is cookie_defect (four_at text) cookie ec).0 are in
    let (len, el, e2) = bind_ok (four_at cookie.1) _ f e1 in
    let a2 = four_rest cookie.1 len el a1 in
    let (offset, eo, e3) = bind_ok (check_field offset_defect (four_at len.1)) _ f e2 in
    let a3 = four_rest len.1 offset (checked_is offset_defect (four_at len.1) offset eo).0 a2 in
    let (sigfig, es, e4) = bind_ok (check_field sigfig_defect (four_at offset.1)) _ f e3 in
    let a4 = four_rest offset.1 sigfig (checked_is sigfig_defect (four_at offset.1) sigfig es).0 a3 in
    let (low, ew, e5) = bind_ok (eight_at sigfig.1) _ f e4 in
    let a5 = eight_rest sigfig.1 low ew a4 in
    let (high, eh, e6) = bind_ok (eight_at low.1) _ f e5 in
    let (ratio, er, e7) = bind_ok (check_field ratio_defect (eight_at high.1)) _ f e6 in
    subst (λ n. n < 2 ^ 64) (sym (high_of (record { payload_len = len.0; sigfig = sigfig.0; low = low.0; high = high.0 }) f ratio.1 e7)) (eight_fits low.1 high eh a5)

-- ---- the bounds

both_true : (a b : Bool) → (a && b) ≡ true → (a ≡ true) × (b ≡ true)
both_true true b e = (refl, e)
both_true false b e = absurd (let f : false ≡ true = e in cc)

pub bounds_from : (low high sigfig : ℕ) → are_bounds low high sigfig ≡ true → IsBounds low high sigfig
unfolding are_bounds
bounds_from low high sigfig e =
    let a = both_true (nat_lt 0 low && nat_lt low (2 ^ 63) && nat_le (2 * low) high && nat_le sigfig 5) (nat_le (unit_of low + digits_of sigfig) 63) e in
    let b = both_true (nat_lt 0 low && nat_lt low (2 ^ 63) && nat_le (2 * low) high) (nat_le sigfig 5) a.0 in
    let c = both_true (nat_lt 0 low && nat_lt low (2 ^ 63)) (nat_le (2 * low) high) b.0 in
    let d = both_true (nat_lt 0 low) (nat_lt low (2 ^ 63)) c.0 in
    record {
      low_fits = ltb-true low (2 ^ 63) d.1;
      wide = leb-true (2 * low) high c.1;
      scale = record { not_zero = ltb-true 0 low d.0; digits = leb-true sigfig 5 b.1; fits = leb-true (unit_of low + digits_of sigfig) 63 a.1 };
    }

-- a header without a defect
allowed : (h header : Header) (b : Bool) → are_bounds h.low h.high h.sigfig ≡ b → unless (bounds_defect h) h ≡ Ok header → (header ≡ h) × IsBounds h.low h.high h.sigfig
allowed h header true b e = let same : ◌≡◌ {A = Result Header Defect} (Ok h) (Ok header) = subst (λ o. unless o h ≡ Ok header) (defect-none h b) e in (cc, bounds_from h.low h.high h.sigfig b)
allowed h header false b e = let bad : ◌≡◌ {A = Result Header Defect} (Err bad_bounds) (Ok header) = subst (λ o. unless o h ≡ Ok header) (defect-some h b) e in absurd cc

-- ---- the histogram

-- contents of which a histogram for counters up to the greatest can be made
record AreSound (most : ℕ) (c : Contents) : Type 0 where
  bins : AreBinsFor c.low c.high c.sigfig (resolution_of c.low c.sigfig) (record { block = 2 ^ ((resolution_of c.low c.sigfig).digits - 1); numbers = c.counts })
  up : AllByRecursion (UpTo most) c.counts

sound : (most : ℕ) (h : Header) (counts : List ℕ) → h.high < 2 ^ 64 → IsBounds h.low h.high h.sigfig → AreCounts (bins_for h) most counts → AreSound most (contents_of h counts)
sound most h counts high b a = record { bins = record { same_scale = refl; block = refl; has_scale = b.scale; high_fits = high; wide = b.wide; whole = a.long }; up = a.up }

found_sound : (most : ℕ) (text : List ℕ) (found : Contents × List ℕ) → AreBytes text → v2_at most text ≡ Ok found → AreSound most found.0
unfolding v2_at
found_sound most text found are e =
    let (f, eh, e1) = bind_ok (header_at text) _ found e in
    let (header, eb, e2) = bind_ok (unless (bounds_defect f.0) f.0) _ found e1 in
    let (payload, ep, e3) = bind_ok (bytes_at header.payload_len f.1) _ found e2 in
    let (counts, ec, e4) = bind_ok (counts_in (bins_for header) most payload.0) _ found e3 in
    let a = allowed f.0 header (are_bounds f.0.low f.0.high f.0.sigfig) refl eb in
    let high : header.high < 2 ^ 64 = subst (λ (h : Header). h.high < 2 ^ 64) (sym a.0) (high_fits text f eh are) in
    let bounds : IsBounds header.low header.high header.sigfig = subst (λ (h : Header). IsBounds h.low h.high h.sigfig) (sym a.0) a.1 in
    subst (λ (c : Contents). AreSound most c) (sym (contents_are header counts payload.1 found e4)) (sound most header counts high bounds (payload_counts (bins_for header) most payload.0 counts ec))
  where
    contents_are : (h : Header) (counts rest : List ℕ) (found : Contents × List ℕ) → ◌≡◌ {A = Result (Contents × List ℕ) Defect} (Ok (contents_of h counts, rest)) (Ok found) → found.0 ≡ contents_of h counts
    contents_are h counts rest found e = cc

pub read_is_plain : (most taken : ℕ) (text : List ℕ) (h : Plain) → AreBytes text → IsReadAs most text h taken → IsPlain most h
read_is_plain most taken text h are read =
    let s : AreSound most (histogram_contents h) = subst (λ (c : Contents). AreSound most c) (sym read.histogram.contents) (found_sound most text (read.contents, drop taken text) are read.read) in
    let r = read.histogram.restated in
    closed-plain most h (2 ^ ((resolution_of h.low h.sigfig).digits - 1)) (resolution_of h.low h.sigfig) s.bins (all_at most h.counts s.up) r.total r.top_mark r.lower_mark

-- ---- the result of decoding

-- an error of each defect; `ended` is one of bytes that end too soon
named : (ended : DeserializeError) → defect_of_error ended ≡ Some cut → (f : Defect) → (e : DeserializeError) × (defect_of_error e ≡ Some f)
named ended is cut = (ended, is)
named ended is other_cookie = (errors.InvalidCookie, refl)
named ended is unsupported = (errors.UnsupportedFeature, refl)
named ended is bad_bounds = (errors.InvalidParameters, refl)
named ended is too_great = (errors.UnsuitableCounterType, refl)
named ended is past_bins = (errors.EncodedArrayTooLong, refl)
named ended is too_far = (errors.UsizeTypeTooSmall, refl)

-- the histogram of contents
abbrev closed : Contents → Plain
closed c = record {
  low = c.low;
  high = c.high;
  sigfig = c.sigfig;
  auto_resize = false;
  counts = c.counts;
  total = min (sum c.counts) (2 ^ 64 - 1);
  top_mark = (top_of_numbers c.counts).0;
  lower_mark = (lower_of_numbers c.counts).0;
}

pub bytes_read : (ended : DeserializeError) → defect_of_error ended ≡ Some cut → (most : ℕ) (text : List ℕ) → (found : Result (Plain × ℕ) DeserializeError) × ReadsV2 most text found
bytes_read ended is most text = by_result (v2_at most text) refl
  where
    by_result : (r : Result (Contents × List ℕ) Defect) → v2_at most text ≡ r → (found : Result (Plain × ℕ) DeserializeError) × ReadsV2 most text found
    by_result (Ok (c, rest)) e =
        let h = closed c in
        let taken = length text - length rest in
        let restated : IsRestated h = record { total = refl; top_mark = (top_of_numbers c.counts).1; lower_mark = (lower_of_numbers c.counts).1 } in
        (Ok (h, taken), is-read most text rest h taken e refl restated refl)
    by_result (Err f) e = let n = named ended is f in (Err n.0, (f, n.1, e))

-- bytes that decode to contents decode to a histogram with them
pub contents_held : (most : ℕ) (text rest : List ℕ) (c : Contents) → AreBytes text → v2_at most text ≡ Ok (c, rest)
    → (h : Plain) × (taken : ℕ) × IsReadAs most text h taken × IsPlain most h × (histogram_contents h ≡ c)
contents_held most text rest c are e =
    let h = closed c in
    let taken = length text - length rest in
    let restated : IsRestated h = record { total = refl; top_mark = (top_of_numbers c.counts).1; lower_mark = (lower_of_numbers c.counts).1 } in
    let read = is-read most text rest h taken e refl restated refl in
    (h, taken, read, read_is_plain most taken text h are read, refl)
