-- A payload that is read number by number.
use Rattle.std.proofs.Common.{◌≡◌, ℕ, zero, suc, ◌+◌, ◌*◌, ◌/◌, ◌%◌, ◌^◌, ◌<◌, ◌≤◌, Bool, true, false, cond, List, [], ◌∷◌, ◌++◌, length, take, drop, set, get_or, replicate, refl, sym, ap, subst, eq-eqb, ◌∙◌, arith, append_assoc, append-nil, length-append, length-drop, drop_of_length-le, take-append-drop, ltb, leb, flat_map, ℤ, pos, negsuc, Option, Some, None, Result, Ok, Err, ⊎_elim, ◌&&◌, MatchBool}
use Rattle.std.proofs.lemmas.Bool.{leb-false, and_cases, lt-leb, lt-ltb, le-ltb, true≢false}
use Rattle.std.proofs.lemmas.List.{drop-drop, length-replicate}
use Rattle.std.specs.List.{AllByRecursion}
use Rattle.hdr_base.specs.Classes.{most_bins}
use Rattle.hdrhistogram.specs.Varint.{IsSpelling, number_of_spelling, Spells}
use Rattle.hdrhistogram.specs.ZigZag.{from_zig_zag}
use Rattle.hdrhistogram.specs.declared.serialization.errors.DeserializeError.{DeserializeError}
use Rattle.hdrhistogram.proofs.VarintRead.{two_spelt}
use Rattle.hdrhistogram.specs.Defects.{Defect, cut, unless, defect_of_error, FailsBy, Gives}
use Rattle.hdrhistogram.specs.PayloadRead.{Parted, last_byte, put_before, split_spellings, numbers, bins_of_number, move, defect_at, first_defect, fit_bins, with_count, IsNumberPut, IsPairPut, counts_or_defect, counts_in, IsCut}

-- ---- the varints of a payload

parted_more : (t : Bool) (left b : ℕ) (bs more : List ℕ) → MatchBool t (bs ≡ []) (IsSpelling left bs)
    → (IsSpelling left bs → split_spellings left (bs ++ more) ≡ record { texts = bs ∷ (split_spellings 8 more).texts; rest = (split_spellings 8 more).rest })
    → cond t (last_byte b (split_spellings 8 (bs ++ more))) (put_before b (split_spellings left (bs ++ more)).texts (split_spellings left (bs ++ more)).rest)
    ≡ record { texts = (b ∷ bs) ∷ (split_spellings 8 more).texts; rest = (split_spellings 8 more).rest }
parted_more true left b bs more s again = rw s refl
parted_more false left b bs more s again = rw (again s) refl

-- a complete varint is split off
pub parted_spelling : (left : ℕ) (text more : List ℕ) → IsSpelling left text → split_spellings left (text ++ more) ≡ record { texts = text ∷ (split_spellings 8 more).texts; rest = (split_spellings 8 more).rest }
unfolding IsSpelling split_spellings
parted_spelling left [] more s = absurd s
parted_spelling zero (b ∷ bs) more s = rw s refl
parted_spelling (suc left) (b ∷ bs) more s = parted_more (ltb b 128) left b bs more s (λ s'. parted_spelling left bs more s')

-- an incomplete varint stays
pub parted_rest : (left : ℕ) (rest : List ℕ) → length rest ≤ left → AllByRecursion (λ b. 128 ≤ b) rest → split_spellings left rest ≡ record { texts = []; rest = rest }
unfolding split_spellings
parted_rest left [] few high = refl
parted_rest zero (b ∷ bs) few high = absurd (omega arith)
parted_rest (suc left) (b ∷ bs) few high = rw (le-ltb b 128 high.0, parted_rest left bs (omega arith) high.1) refl

-- ---- counts of as many bins as there are

pub length_fitted : (bins : ℕ) (counts : List ℕ) → length (fit_bins bins counts) ≡ bins
unfolding fit_bins
length_fitted zero counts = refl
length_fitted (suc bins) [] = ap suc (length_fitted bins [])
length_fitted (suc bins) (n ∷ counts) = ap suc (length_fitted bins counts)

pub fitted_none : (bins : ℕ) → fit_bins bins [] ≡ replicate bins 0
unfolding fit_bins
fitted_none zero = refl
fitted_none (suc bins) = ap (λ l. 0 ∷ l) (fitted_none bins)

-- empty bins at the end change nothing
pub fitted_run : (bins : ℕ) (front : List ℕ) (k : ℕ) → fit_bins bins (front ++ replicate k 0) ≡ fit_bins bins front
unfolding fit_bins
fitted_run zero front k = refl
fitted_run (suc bins) [] zero = refl
fitted_run (suc bins) [] (suc k) = ap (λ l. 0 ∷ l) (fitted_run bins [] k)
fitted_run (suc bins) (n ∷ front) k = ap (λ l. n ∷ l) (fitted_run bins front k)

fitted_set : (bins : ℕ) (front : List ℕ) (n : ℕ) → length front < bins → fit_bins bins (front ++ n ∷ []) ≡ set (fit_bins bins front) (length front) n
unfolding fit_bins
fitted_set zero front n h = absurd (omega arith)
fitted_set (suc bins) [] n h = refl
fitted_set (suc bins) (m ∷ front) n h = ap (λ l. m ∷ l) (fitted_set bins front n (omega arith))

-- ---- one number

no_second : (a b : Bool) (x y : Defect) (m : Option Defect) → cond a (Some x) (cond b (Some y) m) ≡ None → b ≡ false
no_second true b x y m h = cc
no_second false true x y m h = cc
no_second false false x y m h = refl

pub below_bins : (bins greatest place n : ℕ) → defect_at bins greatest place (pos (suc n)) ≡ None → place < bins
below_bins bins greatest place n h =
    let tests = no_second (ltb greatest (suc n)) (ltb 0 (suc n) && leb bins place) _ _ _ h in
    let positive : ltb 0 (suc n) ≡ true = lt-ltb 0 (suc n) (omega arith) in
    ⊎_elim (λ e. absurd (true≢false (sym positive ∙ e))) (λ e. leb-false bins place e) (and_cases _ _ tests)

-- a number without a defect adds its bins
pub with_fitted : (bins greatest place : ℕ) (front : List ℕ) (n : ℤ) → length front ≡ place → defect_at bins greatest place n ≡ None
    → with_count (fit_bins bins front) place n ≡ fit_bins bins (front ++ bins_of_number n)
with_fitted bins greatest place front (pos zero) e fine = sym (fitted_run bins front 1)
with_fitted bins greatest place front (pos (suc n)) e fine =
    ap (λ i. set (fit_bins bins front) i (suc n)) (sym e) ∙ sym (fitted_set bins front (suc n) (omega (arith, below_bins bins greatest place n fine, e)))
with_fitted bins greatest place front (negsuc n) e fine = sym (fitted_run bins front (suc n))

moved : (front : List ℕ) (n : ℤ) → length (front ++ bins_of_number n) ≡ length front + move n
moved front (pos n) = length-append front (n ∷ [])
moved front (negsuc n) = length-append front (replicate (suc n) 0) ∙ ap (λ k. length front + k) (length-replicate {A = ℕ} (suc n) 0)

-- a count that goes in as it is
with_positive : (counts : List ℕ) (place n : ℕ) → 0 < n → with_count counts place (pos n) ≡ set counts place n
with_positive counts place zero some = absurd (omega arith)
with_positive counts place (suc n) some = refl

no_last : (a : Bool) → (a && false) ≡ false
no_last true = refl
no_last false = refl

fine_at : (bins greatest place n : ℕ) → n ≤ greatest → place < bins → bins ≤ most_bins → defect_at bins greatest place (pos n) ≡ None
fine_at bins greatest place n fits inside few =
    let no_past : leb bins place ≡ false = lt-leb bins place inside in
    let no_far : leb (2 ^ 64) (place + 1) ≡ false = lt-leb (2 ^ 64) (place + 1) (omega arith) in
    rw (le-ltb greatest n fits, no_past, no_last (ltb 0 n), no_far) refl

-- a count of two bytes
pub two-put : (greatest place : ℕ) (bytes old new : List ℕ) (n : ℕ) → 1 < length bytes → 128 ≤ get_or bytes 0 0 → get_or bytes 0 0 < 256 → get_or bytes 1 0 < 128 → get_or bytes 0 0 % 2 ≡ 0
    → 2 * n ≡ get_or bytes 0 0 % 128 + 128 * get_or bytes 1 0 → 0 < n → n ≤ greatest → place < length old → length old ≤ most_bins → new ≡ set old place n → IsNumberPut greatest place bytes old new 2 1
two-put greatest place bytes old new n two high fits low even is more most inside few e =
    let encoded = get_or bytes 0 0 % 128 + 128 * get_or bytes 1 0 in
    let parity : encoded % 2 ≡ 0 = omega arith in
    let half : encoded / 2 ≡ n = omega arith in
    let number : from_zig_zag encoded ≡ pos n = rw (eq-eqb (encoded % 2) 0 parity) (ap pos half) in
    record {
      encoded = encoded;
      within = omega arith;
      spells = two_spelt bytes two high fits low;
      fine = rw number (fine_at (length old) greatest place n most inside few);
      bins = rw number refl;
      put = rw number (e ∙ sym (with_positive old place n more));
    }

-- ---- the loop

-- the rest of a payload, of which these bins were read
pub from : ℕ → ℕ → ℕ → List ℕ → Parted → Result (List ℕ) Defect
from bins greatest place front later =
    counts_or_defect (first_defect bins greatest place (numbers later.texts)) later.rest (fit_bins bins (front ++ flat_map bins_of_number (numbers later.texts)))

-- the numbers before `at` are read into the counts
pub record IsFilledTo (bins greatest : ℕ) (payload counts : List ℕ) (at place : ℕ) : Type 0 where
  pub front : List ℕ
  pub long : length front ≡ place
  pub now : counts ≡ fit_bins bins front
  pub whole : counts_in bins greatest payload ≡ from bins greatest place front (split_spellings 8 (drop at payload))
  pub within : at ≤ length payload

pub fill_start : (bins greatest : ℕ) (payload counts : List ℕ) → counts ≡ replicate bins 0 → IsFilledTo bins greatest payload counts 0 0
unfolding counts_in from
fill_start bins greatest payload counts e = record { front = []; long = refl; now = e ∙ sym (fitted_none bins); whole = refl; within = omega arith }

pub fill_bins : (bins greatest : ℕ) (payload counts : List ℕ) (at place : ℕ) → IsFilledTo bins greatest payload counts at place → length counts ≡ bins
fill_bins bins greatest payload counts at place d = ap (length {A = ℕ}) d.now ∙ length_fitted bins d.front

-- the next varint, and what comes after it
parts_of : (payload text : List ℕ) (at next len : ℕ) → text ≡ take len (drop at payload) → next ≡ at + len → drop at payload ≡ text ++ drop next payload
parts_of payload text at next len t e =
    sym (take-append-drop len (drop at payload)) ∙ ap (λ l. l ++ drop len (drop at payload)) (sym t)
    ∙ ap (λ l. text ++ l) (drop-drop len at payload ∙ ap (λ k. drop k payload) (sym e))

next_of : (payload text : List ℕ) (at next len : ℕ) → text ≡ take len (drop at payload) → next ≡ at + len → IsSpelling 8 text
    → split_spellings 8 (drop at payload) ≡ record { texts = text ∷ (split_spellings 8 (drop next payload)).texts; rest = (split_spellings 8 (drop next payload)).rest }
next_of payload text at next len t e s = ap (split_spellings 8) (parts_of payload text at next len t e) ∙ parted_spelling 8 text (drop next payload) s

step_from : (bins greatest place : ℕ) (front text : List ℕ) (n : ℤ) (later : Parted) → from_zig_zag (number_of_spelling 8 text) ≡ n → defect_at bins greatest place n ≡ None
    → from bins greatest place front (record { texts = text ∷ later.texts; rest = later.rest }) ≡ from bins greatest (place + move n) (front ++ bins_of_number n) later
unfolding from first_defect
step_from bins greatest place front text n later value fine =
    rw (value, fine) (ap (λ l. counts_or_defect (first_defect bins greatest (place + move n) (numbers later.texts)) later.rest (fit_bins bins l)) (sym (append_assoc front (bins_of_number n) _)))

stop_from : (bins greatest place : ℕ) (front text : List ℕ) (n : ℤ) (later : Parted) (f : Defect) → from_zig_zag (number_of_spelling 8 text) ≡ n → defect_at bins greatest place n ≡ Some f
    → from bins greatest place front (record { texts = text ∷ later.texts; rest = later.rest }) ≡ Err f
unfolding from first_defect
stop_from bins greatest place front text n later f value e = rw (value, e) refl

pub fill_next : (bins greatest : ℕ) (payload counts after text : List ℕ) (at next place further len encoded : ℕ) (n : ℤ) → IsFilledTo bins greatest payload counts at place
    → len ≤ length (drop at payload) → text ≡ take len (drop at payload) → Spells text encoded → n ≡ from_zig_zag encoded
    → defect_at (length counts) greatest place n ≡ None → after ≡ with_count counts place n → next ≡ at + len → further ≡ place + move n
    → IsFilledTo bins greatest payload after next further
fill_next bins greatest payload counts after text at next place further len encoded n d h t s value fine' e next_is further_is =
    let fine : defect_at bins greatest place n ≡ None = ap (λ k. defect_at k greatest place n) (sym (fill_bins bins greatest payload counts at place d)) ∙ fine' in
    let number : from_zig_zag (number_of_spelling 8 text) ≡ n = sym (value ∙ ap from_zig_zag s.value) in
    record {
      front = d.front ++ bins_of_number n;
      long = moved d.front n ∙ ap (λ k. k + move n) d.long ∙ sym further_is;
      now = e ∙ ap (λ l. with_count l place n) d.now ∙ with_fitted bins greatest place d.front n d.long fine;
      whole = d.whole ∙ ap (from bins greatest place d.front) (next_of payload text at next len t next_is s.whole)
          ∙ step_from bins greatest place d.front text n (split_spellings 8 (drop next payload)) number fine
          ∙ ap (λ k. from bins greatest k (d.front ++ bins_of_number n) (split_spellings 8 (drop next payload))) (sym further_is);
      within = omega (arith, length-drop at payload, d.within);
    }

pub fill_defective : (bins greatest : ℕ) (payload counts text : List ℕ) (at place len encoded : ℕ) (n : ℤ) (f : Defect) → IsFilledTo bins greatest payload counts at place
    → len ≤ length (drop at payload) → text ≡ take len (drop at payload) → Spells text encoded → n ≡ from_zig_zag encoded
    → defect_at (length counts) greatest place n ≡ Some f → counts_in bins greatest payload ≡ Err f
fill_defective bins greatest payload counts text at place len encoded n f d h t s value e' =
    let e : defect_at bins greatest place n ≡ Some f = ap (λ k. defect_at k greatest place n) (sym (fill_bins bins greatest payload counts at place d)) ∙ e' in
    let number : from_zig_zag (number_of_spelling 8 text) ≡ n = sym (value ∙ ap from_zig_zag s.value) in
    d.whole ∙ ap (from bins greatest place d.front) (next_of payload text at (at + len) len t refl s.whole)
    ∙ stop_from bins greatest place d.front text n (split_spellings 8 (drop (at + len) payload)) f number e

end_from : (bins greatest place : ℕ) (front : List ℕ) → from bins greatest place front (record { texts = []; rest = [] }) ≡ Ok (fit_bins bins front)
unfolding from first_defect
end_from bins greatest place front = ap (λ l. Ok (fit_bins bins l)) (append-nil front)

cut_from : (bins greatest place : ℕ) (front rest : List ℕ) → 0 < length rest → from bins greatest place front (record { texts = []; rest = rest }) ≡ Err cut
unfolding from first_defect
cut_from bins greatest place front [] h = absurd (omega arith)
cut_from bins greatest place front (b ∷ rest) h = refl

pub fill_end : (bins greatest : ℕ) (payload counts : List ℕ) (at place : ℕ) → IsFilledTo bins greatest payload counts at place → length payload ≤ at → counts_in bins greatest payload ≡ Ok counts
unfolding split_spellings
fill_end bins greatest payload counts at place d h =
    d.whole ∙ ap (λ l. from bins greatest place d.front (split_spellings 8 l)) (drop_of_length-le payload {i = at} h) ∙ end_from bins greatest place d.front ∙ ap Ok (sym d.now)

pub fill_cut : (bins greatest : ℕ) (payload counts : List ℕ) (at place : ℕ) → IsFilledTo bins greatest payload counts at place → at < length payload → IsCut (drop at payload) → counts_in bins greatest payload ≡ Err cut
fill_cut bins greatest payload counts at place d h c =
    d.whole ∙ ap (from bins greatest place d.front) (parted_rest 8 (drop at payload) c.short c.high)
    ∙ cut_from bins greatest place d.front (drop at payload) (omega (arith, length-drop at payload))

-- the bins after a number was applied
pub fill_short : (bins greatest : ℕ) (payload counts after : List ℕ) (at next place further len moved : ℕ) → IsFilledTo bins greatest payload counts at place
    → IsNumberPut greatest place (drop at payload) counts after len moved → next ≡ at + len → further ≡ place + moved → IsFilledTo bins greatest payload after next further
fill_short bins greatest payload counts after at next place further len moved d p next_is further_is =
    fill_next bins greatest payload counts after (take len (drop at payload)) at next place further len p.encoded (from_zig_zag p.encoded) d p.within refl p.spells refl p.fine p.put next_is (further_is ∙ ap (λ k. place + k) (sym p.bins))

pub fill_pair : (bins greatest : ℕ) (payload counts after : List ℕ) (at next place further : ℕ) → IsFilledTo bins greatest payload counts at place
    → IsPairPut greatest place (drop at payload) counts after → next ≡ at + 4 → further ≡ place + 2 → IsFilledTo bins greatest payload after next further
fill_pair bins greatest payload counts after at next place further d p next_is further_is =
    let half = fill_short bins greatest payload counts p.between at (at + 2) place (place + 1) 2 1 d p.first refl refl in
    let second : IsNumberPut greatest (place + 1) (drop (at + 2) payload) p.between after 2 1 = subst (λ l. IsNumberPut greatest (place + 1) l p.between after 2 1) (drop-drop 2 at payload) p.second in
    fill_short bins greatest payload p.between after (at + 2) next (place + 1) further 2 1 half second (omega arith) (omega arith)

-- an error that names the defect of a check names the defect of all of it
pub fails_so : {A : Type 0} (o defect : Option Defect) (whole : Result A Defect) → FailsBy {A = ℕ} o (unless defect 0) → ((f : Defect) → defect ≡ Some f → whole ≡ Err f) → FailsBy o whole
fails_so None defect whole h so = tt
fails_so (Some f) None whole h so = cc
fails_so (Some f) (Some g) whole h so = let same : g ≡ f = cc in so f (ap Some same)

-- a result that is this error
pub gives_fails : {X Y : Type 0} (view : X → Y) (r : Result X DeserializeError) (e d : DeserializeError) (whole : Result Y Defect) → r ≡ Err e → e ≡ d → FailsBy (defect_of_error d) whole → Gives view r whole
gives_fails view r e d whole p q h = rw (p, q) h
