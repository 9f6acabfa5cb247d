-- The payload: counts in parts, and the loop that writes them.
use Rattle.std.proofs.Common.{◌≡◌, ◌≢◌, ℕ, zero, suc, ◌+◌, ◌-◌, ◌*◌, ◌^◌, ◌<◌, ◌≤◌, Bool, true, false, cond, List, [], ◌∷◌, ◌++◌, length, take, drop, get_or, replicate, refl, sym, ap, ◌∙◌, subst, arith, append_assoc, append-nil, length-take-le, length-append, drop_of_length-le, take-append-drop, eqb, flat_map, pos, add-one, below_more, drop-cons, min, nat_lt, map, ⊎_elim}
use Rattle.std.proofs.lemmas.Bool.{cases_lt, eqb-true, eqb-false, eq-eqb, ne_eqb, lt-ltb, le-ltb}
use Rattle.std.proofs.lemmas.Grind.{get_or_default_zero}
use Rattle.std.proofs.lemmas.List.{length-replicate, length-map, get_or-map, take-take}
use Rattle.std.proofs.lemmas.List.Elements.{recursion_from_All}
use Rattle.std.proofs.lemmas.List.Sums.{count_by_more_yes, count_by_more_no, sum_by-take-le}
use Rattle.std.specs.List.{AllByRecursion}
use Rattle.hdrhistogram.specs.Varint.{IsShortest}
use Rattle.hdrhistogram.specs.ZigZag.{zig_zag}
use Rattle.hdrhistogram.specs.Payload.{Part, run, bin, bins_of, BeginsNoRun, AreMaximal, IsSplit, number_of, AreSpelt, IsPayload, IsRunText, nonempty, enough_bytes}
use Rattle.hdrhistogram.proofs.VarintSpellings.{spelling, spelling_least, shortest_is}
use Rattle.hdrhistogram.proofs.VarintWriting.{drop_past}

-- ---- the parts of a list of counts, as a function: z empty bins wait

unfoldable pub close : ℕ → List Part → List Part
close zero parts = parts
close (suc z) parts = run (suc z) ∷ parts

unfoldable pub parts_from : ℕ → List ℕ → List Part
unfolding close
parts_from z [] = close z []
parts_from z (c ∷ cs) = cond (eqb c 0) (parts_from (suc z) cs) (close z (bin c ∷ parts_from 0 cs))

abbrev pub part_text : Part → List ℕ
part_text part = spelling (zig_zag (number_of part))

unfoldable pub run_text : ℕ → List ℕ
run_text zero = []
run_text (suc z) = part_text (run (suc z))

unfoldable pub text_from : ℕ → List ℕ → List ℕ
unfolding parts_from
text_from z counts = flat_map part_text (parts_from z counts)

empty_more : (z : ℕ) (cs : List ℕ) → replicate z 0 ++ (0 ∷ cs) ≡ replicate (suc z) 0 ++ cs
empty_more zero cs = refl
empty_more (suc z) cs = ap (λ l. 0 ∷ l) (empty_more z cs)

close_whole : (z : ℕ) (parts : List Part) → flat_map bins_of (close z parts) ≡ replicate z 0 ++ flat_map bins_of parts
unfolding close
close_whole zero parts = refl
close_whole (suc z) parts = refl

close_maximal : (z : ℕ) (parts : List Part) → BeginsNoRun parts → AreMaximal parts → AreMaximal (close z parts)
unfolding close
close_maximal zero parts p q = q
close_maximal (suc z) parts p q = (omega arith, p, q)

split_more : (b : Bool) (z c : ℕ) (cs : List ℕ) → eqb c 0 ≡ b → IsSplit (replicate (suc z) 0 ++ cs) (parts_from (suc z) cs) → IsSplit cs (parts_from 0 cs)
    → IsSplit (replicate z 0 ++ (c ∷ cs)) (cond b (parts_from (suc z) cs) (close z (bin c ∷ parts_from 0 cs)))
split_more true z c cs e p q =
    let none : c ≡ 0 = eqb-true c 0 e in
    subst (λ n. IsSplit (replicate z 0 ++ (n ∷ cs)) (parts_from (suc z) cs)) (sym none) (subst (λ l. IsSplit l (parts_from (suc z) cs)) (sym (empty_more z cs)) p)
split_more false z c cs e p q =
    let some : 0 < c = grind (arith, eqb-false c 0 e) in
    record { whole = close_whole z (bin c ∷ parts_from 0 cs) ∙ ap (λ l. replicate z 0 ++ (c ∷ l)) q.whole; maximal = close_maximal z _ tt (some, q.maximal) }

pub parts_split : (z : ℕ) (counts : List ℕ) → IsSplit (replicate z 0 ++ counts) (parts_from z counts)
unfolding parts_from
parts_split z [] = record { whole = close_whole z []; maximal = close_maximal z [] tt tt }
parts_split z (c ∷ cs) = split_more (eqb c 0) z c cs refl (parts_split (suc z) cs) (parts_split 0 cs)

-- ---- one split

parts_run : (k z : ℕ) (rest : List ℕ) → parts_from k (replicate z 0 ++ rest) ≡ parts_from (k + z) rest
unfolding parts_from
parts_run k zero rest = ap (λ n. parts_from n rest) (omega arith)
parts_run k (suc z) rest = parts_run (suc k) z rest ∙ ap (λ n. parts_from n rest) (omega arith)

full_first : (z c : ℕ) (cs : List ℕ) → 0 < c → parts_from z (c ∷ cs) ≡ close z (bin c ∷ parts_from 0 cs)
unfolding parts_from
full_first z c cs h = rw (ne_eqb c 0 (omega arith)) refl

closed_run : (z : ℕ) (parts : List Part) → 0 < z → close z parts ≡ run z ∷ parts
unfolding close
closed_run zero parts h = absurd (omega arith)
closed_run (suc z) parts h = refl

after_run : (z : ℕ) (parts : List Part) → 0 < z → BeginsNoRun parts → AreMaximal parts → parts_from 0 (flat_map bins_of parts) ≡ parts → parts_from z (flat_map bins_of parts) ≡ run z ∷ parts
unfolding parts_from close
after_run z [] h n m e = closed_run z [] h
after_run z (run k ∷ parts) h n m e = absurd n
after_run z (bin c ∷ parts) h n m e = full_first z c (flat_map bins_of parts) m.0 ∙ closed_run z _ h ∙ ap (λ l. run z ∷ l) (sym (full_first 0 c (flat_map bins_of parts) m.0) ∙ e)

parts_again : (parts : List Part) → AreMaximal parts → parts_from 0 (flat_map bins_of parts) ≡ parts
unfolding parts_from close
parts_again [] m = refl
parts_again (run z ∷ parts) m = parts_run 0 z (flat_map bins_of parts) ∙ ap (λ n. parts_from n (flat_map bins_of parts)) (omega arith) ∙ after_run z parts m.0 m.1 m.2 (parts_again parts m.2)
parts_again (bin c ∷ parts) m = full_first 0 c (flat_map bins_of parts) m.0 ∙ ap (λ l. bin c ∷ l) (parts_again parts m.1)

-- counts have one split
pub one_split : (counts : List ℕ) (a b : List Part) → IsSplit counts a → IsSplit counts b → a ≡ b
one_split counts a b p q = sym (parts_again a p.maximal) ∙ ap (parts_from 0) (p.whole ∙ sym q.whole) ∙ parts_again b q.maximal

-- ---- the loop that writes the parts

close_text : (z : ℕ) (parts : List Part) → flat_map part_text (close z parts) ≡ run_text z ++ flat_map part_text parts
unfolding close run_text
close_text zero parts = refl
close_text (suc z) parts = refl

text_of_empty : (z c : ℕ) (cs : List ℕ) → c ≡ 0 → text_from z (c ∷ cs) ≡ text_from (z + 1) cs
unfolding text_from parts_from
text_of_empty z c cs e = rw (eq-eqb c 0 e, add-one) refl

text_of_full : (z c : ℕ) (cs : List ℕ) → c ≢ 0 → text_from z (c ∷ cs) ≡ run_text z ++ (spelling (zig_zag (pos c)) ++ text_from 0 cs)
unfolding text_from parts_from
text_of_full z c cs h = rw (ne_eqb c 0 h) (close_text z (bin c ∷ parts_from 0 cs))

text_of_none : (z : ℕ) → text_from z [] ≡ run_text z
unfolding text_from parts_from
text_of_none z = close_text z [] ∙ append-nil (run_text z)

-- the text up to `written` is stored in out, and left is still to come
pub record StandsIn (whole out old left : List ℕ) (written : ℕ) : Type 0 where
  pub text : take written out ++ left ≡ whole
  pub behind : drop written out ≡ drop written old

stands_more : (whole out old next piece left : List ℕ) (written further : ℕ) → StandsIn whole out old (piece ++ left) written → written ≤ further
    → take further next ≡ take written out ++ piece → drop further next ≡ drop further out → StandsIn whole next old left further
stands_more whole out old next piece left written further s h front behind = record {
  text = ap (λ l. l ++ left) front ∙ append_assoc (take written out) piece left ∙ s.text;
  behind = behind ∙ drop_past out old written further h s.behind;
}

nonempty_upto : (counts : List ℕ) (index next : ℕ) → index ≤ next → nonempty (take index counts) ≤ nonempty (take next counts)
nonempty_upto counts index next h =
    let e : nonempty (take index (take next counts)) ≡ nonempty (take index counts) = ap nonempty (take-take index next counts h) in
    omega (arith, e, sum_by-take-le (λ n. cond (nat_lt 0 n) 1 0) (take next counts) index)

nonempty_one : (counts : List ℕ) (index : ℕ) → index < length counts → get_or counts index 0 ≢ 0 → nonempty (take (index + 1) counts) ≡ nonempty (take index counts) + 1
nonempty_one counts index h full = count_by_more_yes (λ n. nat_lt 0 n) counts index 0 h (lt-ltb 0 (get_or counts index 0) (omega arith))

-- a count of those of a list, one element on
pub full_more : {X : Type 0} (f : X → ℕ) (xs : List X) (i : ℕ) (x : X) (full : ℕ) → i < length xs → x ≡ get_or xs i x → 0 < f x → full ≡ nonempty (take i (map f xs))
    → full + 1 ≡ nonempty (take (i + 1) (map f xs))
full_more f xs i x full h is some was =
    let here : get_or (map f xs) i 0 ≡ f x = get_or-map f xs i x 0 h ∙ ap f (sym is) in
    let inside : i < length (map f xs) = rw length-map h in
    omega (arith, was, nonempty_one (map f xs) i inside (λ none. absurd (omega (arith, here, none, some))))

pub full_same : {X : Type 0} (f : X → ℕ) (xs : List X) (i : ℕ) (x : X) (full : ℕ) → i < length xs → x ≡ get_or xs i x → f x ≤ 0 → full ≡ nonempty (take i (map f xs))
    → full ≡ nonempty (take (i + 1) (map f xs))
full_same f xs i x full h is none was =
    let here : get_or (map f xs) i 0 ≡ f x = get_or-map f xs i x 0 h ∙ ap f (sym is) in
    let inside : i < length (map f xs) = rw length-map h in
    was ∙ sym (count_by_more_no (λ n. nat_lt 0 n) (map f xs) i 0 inside (le-ltb 0 (get_or (map f xs) i 0) (omega (arith, here))))

nonempty_of : (counts : List ℕ) (index : ℕ) → nonempty (take index counts) ≤ nonempty counts
nonempty_of counts index = sum_by-take-le (λ n. cond (nat_lt 0 n) 1 0) counts index

-- the counts before `index` are written; a run of empty ones at their end is all of its run
pub record IsEncodedTo (counts out old : List ℕ) (index written : ℕ) : Type 0 where
  pub stands : StandsIn (text_from 0 counts) out old (text_from 0 (drop index counts)) written
  pub room : written ≤ 9 * index
  pub parts : written ≤ 18 * nonempty (take index counts) + 9
  pub fresh : index < length counts → get_or counts index 0 ≡ 0 → written ≤ 18 * nonempty (take index counts)
  pub small : (k : ℕ) → k < index → get_or counts k 0 < 2 ^ 63

pub encode_start : (counts old : List ℕ) → IsEncodedTo counts old old 0 0
encode_start counts old = record { stands = record { text = refl; behind = refl }; room = omega arith; parts = omega arith; fresh = λ h z. omega arith; small = λ k h. absurd (omega arith) }

-- empty bins wait
text_past : (counts : List ℕ) (index k : ℕ) → index + k ≤ length counts → ((i : ℕ) → index ≤ i → i < index + k → get_or counts i 0 ≡ 0)
    → text_from 0 (drop index counts) ≡ text_from k (drop (index + k) counts)
text_past counts index zero h zeros = ap (λ i. text_from 0 (drop i counts)) (let a : index ≡ index + 0 = omega arith in a)
text_past counts index (suc k) h zeros =
    let at = index + k in
    let before : text_from 0 (drop index counts) ≡ text_from k (drop at counts) = text_past counts index k (omega arith) (λ i a b. zeros i a (omega (arith, b))) in
    let here : text_from k (drop at counts) ≡ text_from (k + 1) (drop (at + 1) counts)
    = ap (text_from k) (drop-cons counts at 0 (omega arith) ∙ ap (λ n. get_or counts at 0 ∷ drop n counts) (sym (add-one at))) ∙ text_of_empty k _ _ (zeros at (omega arith) (omega arith)) in
    before ∙ here ∙ ap (λ n. text_from n (drop (at + 1) counts)) (let a : k + 1 ≡ suc k = omega arith in a)
    ∙ ap (λ i. text_from (suc k) (drop i counts)) (let a : at + 1 ≡ index + suc k = omega arith in a)

-- a run is all of its run before a nonempty bin and at the end
text_of_run : (counts : List ℕ) (next z : ℕ) → (next < length counts → get_or counts next 0 ≢ 0) → text_from z (drop next counts) ≡ run_text z ++ text_from 0 (drop next counts)
unfolding run_text
text_of_run counts next z full =
    ⊎_elim (λ (h : next < length counts).
    let parts : drop next counts ≡ get_or counts next 0 ∷ drop (suc next) counts = drop-cons counts next 0 h in
    ap (text_from z) parts ∙ text_of_full z _ _ (full h) ∙ ap (λ l. run_text z ++ l) (sym (ap (text_from 0) parts ∙ text_of_full 0 _ _ (full h))))
    (λ (h : length counts ≤ next).
    let none : drop next counts ≡ [] = drop_of_length-le counts {i = next} h in
    ap (text_from z) none ∙ text_of_none z ∙ sym (append-nil (run_text z)) ∙ ap (λ l. run_text z ++ l) (sym (ap (text_from 0) none ∙ text_of_none 0)))
    (cases_lt next (length counts))

small_past : (counts : List ℕ) (index next : ℕ) → ((k : ℕ) → k < index → get_or counts k 0 < 2 ^ 63) → ((i : ℕ) → index ≤ i → i < next → get_or counts i 0 ≡ 0) → (k : ℕ) → k < next → get_or counts k 0 < 2 ^ 63
small_past counts index next small zeros k h =
    ⊎_elim (λ (lt : k < index). small k lt) (λ (le : index ≤ k). omega (arith, zeros k le h)) (cases_lt k index)

-- a run of empty bins
pub encode_run : (counts out to old : List ℕ) (index next written further : ℕ) → IsEncodedTo counts out old index written → index < next → next ≤ length counts
    → ((i : ℕ) → index ≤ i → i < next → get_or counts i 0 ≡ 0) → (next < length counts → get_or counts next 0 ≢ 0)
    → written ≤ further → further ≤ written + 9 → take further to ≡ take written out ++ run_text (next - index) → drop further to ≡ drop further out
    → IsEncodedTo counts to old next further
encode_run counts out to old index next written further e some h zeros full more few front behind =
    let z = next - index in
    let is : index + z ≡ next = omega arith in
    let rest : text_from 0 (drop index counts) ≡ run_text z ++ text_from 0 (drop next counts)
    = text_past counts index z (omega arith) (λ i a b. zeros i a (omega (arith, b))) ∙ ap (λ i. text_from z (drop i counts)) is ∙ text_of_run counts next z full in
    let bound : further ≤ 18 * nonempty (take next counts) + 9 = omega (arith, few, e.fresh (omega arith) (zeros index (omega arith) some), nonempty_upto counts index next (omega arith)) in
    record {
      stands = stands_more (text_from 0 counts) out old to (run_text z) (text_from 0 (drop next counts)) written further
          (subst (λ l. StandsIn (text_from 0 counts) out old l written) rest e.stands) more front behind;
      room = omega (arith, e.room);
      parts = bound;
      fresh = λ inside empty. absurd (full inside empty);
      small = small_past counts index next e.small zeros;
    }

-- the numbers from an empty one on are empty, if those after it are
pub empty_from : (counts : List ℕ) (index next : ℕ) → get_or counts index 0 ≡ 0 → ((i : ℕ) → index + 1 ≤ i → i < next → get_or counts i 0 ≡ 0)
    → (i : ℕ) → index ≤ i → i < next → get_or counts i 0 ≡ 0
empty_from counts index next empty rest i le lt =
    ⊎_elim (λ (after : index < i). rest i (omega arith) lt) (λ (here : i ≤ index).
    let same : i ≡ index = omega arith in
    ap (λ k. get_or counts k 0) same ∙ empty)
    (cases_lt index i)

-- a nonempty bin
pub encode_full : (counts out to old : List ℕ) (index written further : ℕ) → IsEncodedTo counts out old index written → index < length counts
    → get_or counts index 0 ≢ 0 → get_or counts index 0 < 2 ^ 63
    → written ≤ further → further ≤ written + 9 → take further to ≡ take written out ++ spelling (zig_zag (pos (get_or counts index 0))) → drop further to ≡ drop further out
    → IsEncodedTo counts to old (index + 1) further
unfolding run_text
encode_full counts out to old index written further e h full small more few front behind =
    let c = get_or counts index 0 in
    let rest : text_from 0 (drop index counts) ≡ spelling (zig_zag (pos c)) ++ text_from 0 (drop (index + 1) counts)
    = ap (text_from 0) (drop-cons counts index 0 h ∙ ap (λ n. c ∷ drop n counts) (sym (add-one index))) ∙ text_of_full 0 c _ full in
    let bound : further ≤ 18 * nonempty (take (index + 1) counts) = omega (arith, few, e.parts, nonempty_one counts index h full) in
    record {
      stands = stands_more (text_from 0 counts) out old to (spelling (zig_zag (pos c))) (text_from 0 (drop (index + 1) counts)) written further
          (subst (λ l. StandsIn (text_from 0 counts) out old l written) rest e.stands) more front behind;
      room = omega (arith, e.room);
      parts = omega (arith, bound);
      fresh = λ inside empty. bound;
      small = below_more _ index e.small small;
    }

-- ---- the length that is enough

-- for a nonempty bin
pub room_for_full : (counts out old : List ℕ) (index written room : ℕ) → IsEncodedTo counts out old index written → index < length counts → get_or counts index 0 ≢ 0
    → enough_bytes counts ≤ room → written + 9 ≤ room
unfolding enough_bytes
room_for_full counts out old index written room e h full enough =
    omega (arith, e.room, e.parts, nonempty_one counts index h full, nonempty_of counts (index + 1))

-- for a run
pub room_for_run : (counts out old : List ℕ) (index written room : ℕ) → IsEncodedTo counts out old index written → index < length counts → get_or counts index 0 ≡ 0
    → enough_bytes counts ≤ room → written + 9 ≤ room
unfolding enough_bytes
room_for_run counts out old index written room e h empty enough =
    omega (arith, e.room, e.fresh h empty, nonempty_of counts index)

-- for all that is written
pub room_for_all : (counts out old : List ℕ) (index written room : ℕ) → IsEncodedTo counts out old index written → index ≤ length counts
    → enough_bytes counts ≤ room → written ≤ room
unfolding enough_bytes
room_for_all counts out old index written room e h enough =
    omega (arith, e.room, e.parts, nonempty_of counts index)

-- nine bytes for each bin
pub enough-each : (counts : List ℕ) (bins : ℕ) → length counts ≤ bins → enough_bytes counts ≤ 9 * bins
unfolding enough_bytes
enough-each counts bins h = omega arith

-- nine for each nonempty one and each run beside it
pub enough-parts : (counts : List ℕ) (bins full least : ℕ) → length counts ≡ bins → full ≡ nonempty counts → least ≡ min bins (2 * full + 1) → enough_bytes counts ≡ 9 * least
unfolding enough_bytes
enough-parts counts bins full least size is e = omega arith

-- ---- the text is the payload

-- numbers that zig-zag keeps below 2 ^ 64
number_fits : (z : ℕ) → z < 2 ^ 63 → zig_zag (number_of (run z)) < 2 ^ 64
number_fits zero h = omega arith
number_fits (suc zero) h = omega arith
number_fits (suc (suc z)) h = omega arith

all_behind : (P : ℕ → Type 0) (xs ys : List ℕ) → AllByRecursion P (xs ++ ys) → AllByRecursion P ys
all_behind P [] ys h = h
all_behind P (x ∷ xs) ys h = all_behind P xs ys h.1

spelt_of : (parts : List Part) → length (flat_map bins_of parts) < 2 ^ 63 → AllByRecursion (λ c. c < 2 ^ 63) (flat_map bins_of parts) → AreSpelt parts (flat_map part_text parts)
spelt_of [] few small = refl
spelt_of (run z ∷ parts) few small =
    let size = length-append (replicate z 0) (flat_map bins_of parts) in
    let run_size = length-replicate {A = ℕ} z 0 in (
      part_text (run z),
      flat_map part_text parts,
      refl,
      spelling_least (zig_zag (number_of (run z))) (number_fits z (omega arith)),
      spelt_of parts (omega arith) (all_behind _ (replicate z 0) (flat_map bins_of parts) small),
    )
spelt_of (bin c ∷ parts) few small =
    (part_text (bin c), flat_map part_text parts, refl, spelling_least (2 * c) (omega (arith, small.0)), spelt_of parts (omega arith) small.1)

pub payload_of_parts : (counts : List ℕ) → length counts < 2 ^ 63 → AllByRecursion (λ c. c < 2 ^ 63) counts → IsPayload counts (text_from 0 counts)
unfolding text_from
payload_of_parts counts few small =
    let split = parts_split 0 counts in
    record { parts = parts_from 0 counts; split = split; spelt = spelt_of (parts_from 0 counts) (omega (arith, ap (length {A = ℕ}) split.whole)) (subst (AllByRecursion (λ c. c < 2 ^ 63)) (sym split.whole) small) }

pub small_all : {out old : List ℕ} {index written : ℕ} (counts : List ℕ) → IsEncodedTo counts out old index written → length counts ≤ index
    → (k d : ℕ) → k < length counts → get_or counts k d < 2 ^ 63
small_all counts e h k d p = rw (get_or_default_zero counts k d p) (e.small k (omega arith))

pub encode_end : (counts out old : List ℕ) (index written : ℕ) → IsEncodedTo counts out old index written → length counts ≤ index → length counts < 2 ^ 63 → written ≤ length out
    → (text : List ℕ) × IsPayload counts text × (written ≡ length text) × (out ≡ text ++ drop written old)
unfolding run_text
encode_end counts out old index written e h few within =
    let none : text_from 0 (drop index counts) ≡ [] = ap (text_from 0) (drop_of_length-le counts {i = index} h) ∙ text_of_none 0 in
    let text : take written out ≡ text_from 0 counts = sym (append-nil (take written out)) ∙ ap (λ l. take written out ++ l) (sym none) ∙ e.stands.text in (
      text_from 0 counts,
      payload_of_parts counts few (recursion_from_All _ counts (small_all counts e h)),
      sym (length-take-le written out within) ∙ ap length text,
      sym (take-append-drop written out) ∙ ap (λ l. l ++ drop written out) text ∙ ap (λ l. text_from 0 counts ++ l) e.stands.behind,
    )

-- ---- what the helpers write

-- what is written of a number
pub number_is : (n : ℕ) (whole front : List ℕ) → n < 2 ^ 64 → (text : List ℕ) × IsShortest text n × (whole ≡ front ++ text) → whole ≡ front ++ spelling n
number_is n whole front h w = let (text, p, e) = w in e ∙ ap (λ l. front ++ l) (shortest_is n text h p)

-- what is written of a run
pub run_is : (z : ℕ) (whole front : List ℕ) → z < 2 ^ 63 → (text : List ℕ) × IsRunText z text × (whole ≡ front ++ text) → whole ≡ front ++ run_text z
unfolding run_text
run_is zero whole front h w = let (text, p, e) = w in e ∙ ap (λ l. front ++ l) p
run_is (suc z) whole front h w = number_is (zig_zag (number_of (run (suc z)))) whole front (number_fits (suc z) h) w

-- what is written of a count
pub count_is : (count c : ℕ) (whole front : List ℕ) → count ≡ c → c < 2 ^ 63 → (text : List ℕ) × IsShortest text (2 * count) × (whole ≡ front ++ text)
    → whole ≡ front ++ spelling (zig_zag (pos c))
count_is count c whole front same h w = number_is (2 * c) whole front (omega arith) (subst (λ n. (text : List ℕ) × IsShortest text (2 * n) × (whole ≡ front ++ text)) same w)

-- a run of several bins
pub run_spelt : (z : ℕ) (text : List ℕ) → 2 ≤ z → IsShortest text (2 * z - 1) → IsRunText z text
run_spelt zero text h s = absurd (omega arith)
run_spelt (suc zero) text h s = absurd (omega arith)
run_spelt (suc (suc z)) text h s = let e : 2 * (suc (suc z)) - 1 ≡ 2 * (suc z) + 1 = omega arith in subst (IsShortest text) e s
