-- Counters that are being set, with the sums of their blocks.
use Rattle.std.proofs.Common.{◌≡◌, ◌≢◌, ℕ, ◌+◌, ◌-◌, ◌*◌, ◌/◌, ◌^◌, ◌<◌, ◌≤◌, ◌++◌, List, [], ◌∷◌, Option, Some, None, IfSome, MatchOption, length, get_or, set, take, drop, min, map, replicate, sum, append_assoc, refl, zero, suc, sym, ap, ◌∙◌, subst, arith, ⊎_elim}
use Rattle.std.specs.List.{All}
use Rattle.std.proofs.lemmas.Bool.{cases_lt}
use Rattle.std.proofs.lemmas.List.{length-set, length-append, length-replicate, get_or-set_other, get_or_append_left, get_or-append_right, get_or-take, get_or-drop, get_or_past, drop-map, ext_get_or, length-take, length-map, take-map, set-append_left, replicate-append-replicate, take_all}
use Rattle.std.proofs.lemmas.List.Elements.{All-nil, All-append, All-replicate, All-set}
use Rattle.std.proofs.Math.Nat.{mul-le-mul_right}
use Rattle.hdr_base.specs.Classes.{most_bins}
use Rattle.hdr_counts.specs.Blocks.{AreSums, AreOpen, AreZeros, IsAt, IsFirstNonzero, IsLastNonzero, IsShift, with_zeros}
use Rattle.hdr_counts.proofs.BlocksSums.{AreSums-set, AreSums-grow, block_of, grown, part_whole, sum-fits, sum_below-le-sum, sum_below-zeros}
use Rattle.hdr_counts.proofs.BlocksWritten.{AreRead, number-read, are-read}

-- the sum at an index of the sums, once stored there
pub set-twice : (l : List ℕ) (i a b : ℕ) → set (set l i a) i b ≡ set l i b
set-twice [] i a b = refl
set-twice (x ∷ l) zero a b = refl
set-twice (x ∷ l) (suc i) a b = ap (λ r. x ∷ r) (set-twice l i a b)

pub get-set-own : (l : List ℕ) (i a : ℕ) → a ≡ get_or (set l i a) i a
get-set-own [] i a = refl
get-set-own (x ∷ l) zero a = refl
get-set-own (x ∷ l) (suc i) a = get-set-own l i a

pub set-first-zero : (ss : List ℕ) (n : ℕ) → ss ≡ replicate n 0 → set ss 0 0 ≡ ss
set-first-zero ss zero e = rw e refl
set-first-zero ss (suc n) e = rw e refl

-- a number that is in the list
pub get-with-zeros : (ns : List ℕ) (len i : ℕ) → i < length ns → get_or (with_zeros ns len) i 0 ≡ get_or ns i 0
get-with-zeros ns len i lt = get_or_append_left ns (replicate (len - length ns) 0) 0 i lt

pub set-with-zeros : (ns : List ℕ) (len i v : ℕ) → i < length ns → with_zeros (set ns i v) len ≡ set (with_zeros ns len) i v
set-with-zeros ns len i v lt =
    ap (λ n. set ns i v ++ replicate (len - n) 0) (length-set ns i v) ∙ sym (set-append_left ns (replicate (len - length ns) 0) i v lt)

-- zero-filling changes nothing
pub more-zeros : (ns ms : List ℕ) (len more : ℕ) → ms ≡ ns ++ replicate more 0 → length ms ≤ len → with_zeros ms len ≡ with_zeros ns len
more-zeros ns ms len more e le =
    let size : length ms ≡ length ns + more = ap (length {A = ℕ}) e ∙ length-append ns (replicate more 0) ∙ ap (λ n. length ns + n) (length-replicate {A = ℕ} more 0) in
    let left : more + (len - length ms) ≡ len - length ns = omega arith in
    ap (λ l. l ++ replicate (len - length ms) 0) e ∙ append_assoc ns (replicate more 0) (replicate (len - length ms) 0)
    ∙ ap (λ l. ns ++ l) (replicate-append-replicate more (len - length ms) 0 ∙ ap (λ n. replicate n 0) left)

pub length-with-zeros : (ns : List ℕ) (len : ℕ) → length ns ≤ len → length (with_zeros ns len) ≡ len
length-with-zeros ns len le = length-append ns (replicate (len - length ns) 0) ∙ (let e = length-replicate {A = ℕ} (len - length ns) 0 in omega (arith, e))

-- an empty list made longer
pub none-resized : (ss zs : List ℕ) (n l : ℕ) → ss ≡ [] → l ≡ 0 → zs ≡ take n ss ++ replicate (n - l) 0 → zs ≡ replicate n 0
none-resized ss zs n l none len e =
    let front : take n ss ≡ [] = ap (take n) none ∙ take_all n [] (omega arith) in
    let all : n - l ≡ n = omega arith in
    e ∙ ap (λ x. x ++ replicate (n - l) 0) front ∙ ap (λ k. replicate k 0) all

-- counters of 0 that were made at once
pub made-zeros : {X : Type 0} (f : X → ℕ) (xs ys : List X) (z : X) (n l : ℕ) → xs ≡ [] → l ≡ 0 → f z ≡ 0 → ys ≡ take n xs ++ replicate (n - l) z → map f ys ≡ replicate n 0
made-zeros f xs ys z n l none len zero_is is =
    let none_len : 0 ≡ length xs = sym (ap (length {A = _}) none) in
    grown f xs ys xs z n l refl (len ∙ none_len) (omega (arith, none_len)) zero_is is ∙ ap (λ l. with_zeros (map f l) n) none ∙ ap (λ k. replicate k 0) (let all : n - 0 ≡ n = omega arith in all)

pub zeros-made : (b blocks : ℕ) → 1 ≤ b → blocks * b ≤ most_bins → AreSums b (replicate (blocks * b) 0) (replicate blocks 0)
zeros-made b blocks some few =
    let none : AreSums b [] [] = record { some = some; few = omega arith; whole = omega arith; each = λ k lt. absurd (omega arith); fits = All-nil _ } in
    let all : blocks - 0 ≡ blocks = omega arith in
    let every : blocks * b - 0 ≡ blocks * b = omega arith in
    subst (λ n. AreSums b (replicate n 0) (replicate blocks 0)) every (subst (λ k. AreSums b (with_zeros [] (blocks * b)) (replicate k 0)) all (AreSums-grow b [] [] blocks none (omega arith) few))

-- counters of 0, none of which is in the list
pub open-none : (greatest b n len capacity : ℕ) (ss : List ℕ) (shift : Option ℕ) → 1 ≤ b → n * b ≡ len → len ≤ most_bins → len ≤ capacity → ss ≡ replicate n 0 → IsShift b shift
    → AreOpen greatest b len capacity [] ss shift
open-none greatest b n len capacity ss shift some is few room e is_shift =
    let size : length ss ≡ n = ap (length {A = ℕ}) e ∙ length-replicate {A = ℕ} n 0 in
    let every : n * b ≡ len - 0 = omega (arith, is) in
    let zeros : AreSums b (with_zeros [] len) (replicate n 0) = subst (λ m. AreSums b (replicate m 0) (replicate n 0)) every (zeros-made b n some (omega (arith, is, few))) in
    record {
      some = some;
      few = few;
      whole = sym is ∙ ap (λ m. m * b) (sym size);
      within = omega arith;
      room = room;
      kept = subst (λ l. AreSums b (with_zeros [] len) l) (sym e) zeros;
      shift_is = is_shift;
      fit = All-nil _;
    }

pub at-none : (b : ℕ) → IsAt b 0 0 0 18446744073709551615 []
at-none b = record { rest = λ j le. refl; from = omega arith; to = omega arith; at_hand = omega arith; within = omega arith; some = omega arith; low = λ j some lt. refl; order = λ lt. absurd (omega (arith, lt)) }

-- the list was zero-filled
pub open-zero_fill_to : (greatest b len capacity room more : ℕ) (ns ms ss : List ℕ) (shift : Option ℕ) → AreOpen greatest b len capacity ns ss shift
    → ms ≡ ns ++ replicate more 0 → length ms ≤ len → len ≤ room → AreOpen greatest b len room ms ss shift
open-zero_fill_to greatest b len capacity room more ns ms ss shift h e within enough = record {
  some = h.some;
  few = h.few;
  whole = h.whole;
  within = within;
  room = enough;
  kept = subst (λ l. AreSums b l ss) (sym (more-zeros ns ms len more e within)) h.kept;
  shift_is = h.shift_is;
  fit = subst (λ l. All (λ n. n ≤ greatest) l) (sym e) (All-append (λ n. n ≤ greatest) ns (replicate more 0) h.fit (All-replicate (λ n. n ≤ greatest) more 0 (omega arith)));
}

pub zero-at : (m j : ℕ) → ◌≡◌ {A = ℕ} (get_or (replicate m 0) j 0) 0
zero-at zero j = refl
zero-at (suc m) zero = refl
zero-at (suc m) (suc j) = zero-at m j

-- zero-filling changes no number
zeros-at : (more : ℕ) (ns ms : List ℕ) (j : ℕ) → ms ≡ ns ++ replicate more 0 → get_or ms j 0 ≡ get_or ns j 0
zeros-at more ns ms j e =
    ap (λ l. get_or l j 0) e
    ∙ ⊎_elim
    (λ (lt : j < length ns). get_or_append_left ns (replicate more 0) 0 j lt)
    (λ (ge : length ns ≤ j). get_or-append_right ns (replicate more 0) (length ns) j 0 refl ge ∙ zero-at more (j - length ns) ∙ sym (get_or_past ns j 0 ge))
    (cases_lt j (length ns))

pub at-zero_fill_to : (b k next end first more : ℕ) (ns ms : List ℕ) → IsAt b k next end first ns → ms ≡ ns ++ replicate more 0 → IsAt b k next end first ms
at-zero_fill_to b k next end first more ns ms h e =
    let longer : length ns ≤ length ms = omega (arith, ap (length {A = ℕ}) e, length-append ns (replicate more 0)) in
    record {
      rest = λ j le. zeros-at more ns ms j e ∙ h.rest j le;
      from = h.from;
      to = h.to;
      at_hand = omega (arith, h.at_hand, longer);
      within = omega (arith, h.within, longer);
      some = h.some;
      low = λ j some lt. zeros-at more ns ms j e ∙ h.low j some lt;
      order = h.order;
    }

-- an index that is set
pub open-set : (greatest b len capacity : ℕ) (ns ss : List ℕ) (shift : Option ℕ) (i v : ℕ) → AreOpen greatest b len capacity ns ss shift → i < length ns → v ≤ greatest → greatest ≤ 18446744073709551615
    → AreOpen greatest b len capacity (set ns i v) (set ss (i / b) (get_or ss (i / b) 0 - get_or ns i 0 + v)) shift
open-set greatest b len capacity ns ss shift i v h lt fits most =
    let all = with_zeros ns len in
    let inside : i < length all = omega (arith, length-with-zeros ns len h.within, h.within) in
    let put : AreSums b (set all i v) (set ss (i / b) (get_or ss (i / b) 0 - get_or all i 0 + v)) = AreSums-set b all ss i v h.kept inside (omega arith) in
    let same : AreSums b (set all i v) (set ss (i / b) (get_or ss (i / b) 0 - get_or ns i 0 + v)) =
    subst (λ x. AreSums b (set all i v) (set ss (i / b) (get_or ss (i / b) 0 - x + v))) (get-with-zeros ns len i lt) put in
    record {
      some = h.some;
      few = h.few;
      whole = h.whole ∙ ap (λ n. n * b) (sym (length-set ss (i / b) _));
      within = rw length-set h.within;
      room = h.room;
      kept = subst (λ l. AreSums b l (set ss (i / b) (get_or ss (i / b) 0 - get_or ns i 0 + v))) (sym (set-with-zeros ns len i v lt)) same;
      shift_is = h.shift_is;
      fit = All-set (λ n. n ≤ greatest) ns i v fits h.fit;
    }

-- a number of the list and the sum of its block, as they were read
pub open-read : {X : Type 0} (f : X → ℕ) (xs : List X) (greatest b len capacity i k x s : ℕ) (counter : X) (ss : List ℕ) (shift : Option ℕ) → AreOpen greatest b len capacity (map f xs) ss shift → i < length (map f xs)
    → counter ≡ get_or xs i counter → x ≡ f counter → k ≡ i / b → s ≡ get_or ss k s → AreRead b i x s (with_zeros (map f xs) len) ss
open-read f xs greatest b len capacity i k x s counter ss shift h lt is x_is k_is s_is =
    let all = with_zeros (map f xs) len in
    let inside : i < length all = omega (arith, length-with-zeros (map f xs) len h.within, h.within) in
    let old = number-read f xs i x counter lt is x_is in
    are-read b i k x s all ss h.kept inside (old ∙ sym (get-with-zeros (map f xs) len i lt)) k_is s_is

-- an index after those that were set, in the current block
pub block-at : (b k i next end first : ℕ) (ns : List ℕ) → 1 ≤ b → IsAt b k next end first ns → next ≤ i → i < end → k ≡ i / b
block-at b k i next end first ns some h le lt =
    let q = block_of b i some in
    let below : i < (i / b + 1) * b = q.1 in
    let low : k < i / b + 1 = ⊎_elim (λ (x : k < i / b + 1). x) (λ (x : i / b + 1 ≤ k). absurd (omega (arith, mul-le-mul_right b x, h.from, below))) (cases_lt k (i / b + 1)) in
    let high : i / b < k + 1 = ⊎_elim (λ (x : i / b < k + 1). x) (λ (x : k + 1 ≤ i / b). absurd (omega (arith, mul-le-mul_right b x, h.to, q.0))) (cases_lt (i / b) (k + 1)) in
    omega arith

-- that number was 0, so the sum of its block grows by what is stored there
pub open-next : (greatest b len capacity k next end first s : ℕ) (ns ss : List ℕ) (shift : Option ℕ) (i v : ℕ) → AreOpen greatest b len capacity ns ss shift → IsAt b k next end first ns → next ≤ i → i < end → v ≤ greatest → greatest ≤ 18446744073709551615
    → s ≡ get_or ss k s → AreOpen greatest b len capacity (set ns i v) (set ss k (s + v)) shift
open-next greatest b len capacity k next end first s ns ss shift i v h at le lt fits most s_is =
    let here : i < length ns = omega (arith, at.at_hand) in
    let k_is = block-at b k i next end first ns h.some at le lt in
    let all = with_zeros ns len in
    let inside : i < length all = omega (arith, length-with-zeros ns len h.within, h.within) in
    let was : get_or ns i 0 ≡ 0 = at.rest i le in
    let pair = are-read b i k 0 s all ss h.kept inside (sym was ∙ sym (get-with-zeros ns len i here)) k_is s_is in
    let is : get_or ss (i / b) 0 - get_or ns i 0 + v ≡ s + v = ap (λ x. get_or ss (i / b) 0 - x + v) (sym (get-with-zeros ns len i here)) ∙ pair.next v (s + v) (omega arith) in
    subst (λ q. AreOpen greatest b len capacity (set ns i v) (set ss q (s + v)) shift) (sym k_is)
    (subst (λ x. AreOpen greatest b len capacity (set ns i v) (set ss (i / b) x) shift) is (open-set greatest b len capacity ns ss shift i v h here fits most))

pub block-inside : (greatest b len capacity k next end first : ℕ) (ns ss : List ℕ) (shift : Option ℕ) (i : ℕ) → AreOpen greatest b len capacity ns ss shift → IsAt b k next end first ns → next ≤ i → i < end → k < length ss
block-inside greatest b len capacity k next end first ns ss shift i h at le lt =
    ⊎_elim (λ (x : k < length ss). x) (λ (x : length ss ≤ k). absurd (omega (arith, mul-le-mul_right b x, at.from, h.whole, at.at_hand, h.within))) (cases_lt k (length ss))

pub sum-small : (greatest b len capacity k next end first s : ℕ) (ns ss : List ℕ) (shift : Option ℕ) (i : ℕ) → AreOpen greatest b len capacity ns ss shift → IsAt b k next end first ns → next ≤ i → i < end → s ≡ get_or ss k s → s < 2 ^ 127
sum-small greatest b len capacity k next end first s ns ss shift i h at le lt s_is =
    let here : i < length ns = omega (arith, at.at_hand) in
    let all = with_zeros ns len in
    let inside : i < length all = omega (arith, length-with-zeros ns len h.within, h.within) in
    let pair = are-read b i k 0 s all ss h.kept inside (sym (at.rest i le) ∙ sym (get-with-zeros ns len i here)) (block-at b k i next end first ns h.some at le lt) s_is in
    pair.small

-- the numbers after an index that was set
rest-set : (next i v : ℕ) (ns : List ℕ) → ((j : ℕ) → next ≤ j → get_or ns j 0 ≡ 0) → next ≤ i → (j : ℕ) → i + 1 ≤ j → get_or (set ns i v) j 0 ≡ 0
rest-set next i v ns rest le j after =
    let other : j ≢ i = omega arith in
    get_or-set_other ns i j v 0 other ∙ rest j (omega arith)

-- the next index of the block was set
pub at-next : (b k next end first i v : ℕ) (ns : List ℕ) → IsAt b k next end first ns → next ≤ i → i < end → IsAt b k (i + 1) end first (set ns i v)
at-next b k next end first i v ns h le lt =
    let before : first ≤ next = h.order (omega arith) in
    record {
      rest = rest-set next i v ns h.rest le;
      from = omega (arith, h.from);
      to = h.to;
      at_hand = rw length-set h.at_hand;
      within = rw length-set (omega (arith, lt, h.at_hand));
      some = h.some;
      low = λ j some under. let other : j ≢ i = omega (arith, under, before, le) in get_or-set_other ns i j v 0 other ∙ h.low j some under;
      order = λ _. omega (arith, before, le);
    }

-- the numbers before the lower of two indices
low-set : (first low i v : ℕ) (ns : List ℕ) → ((j : ℕ) → 0 < j → j < first → get_or ns j 0 ≡ 0) → low ≤ first → (0 < i → low ≤ i) → (j : ℕ) → 0 < j → j < low → get_or (set ns i v) j 0 ≡ 0
low-set first low i v ns before within own j some under =
    let other : j ≢ i = λ same. absurd (omega (arith, own (omega (arith, same, some)), same, under)) in
    get_or-set_other ns i j v 0 other ∙ before j some (omega (arith, under, within))

-- an index of another block, after all that were set
pub at-block : (b k next end first i v q stop low last : ℕ) (ns : List ℕ) → 1 ≤ b → IsAt b k next end first ns → next ≤ i → q ≡ i / b → stop ≡ (q + 1) * b → stop ≤ length ns → i < length ns
    → 0 < low → low ≤ first → (0 < i → low ≤ i) → last ≤ stop → (0 < last → 0 < i) → IsAt b q (i + 1) last low (set ns i v)
at-block b k next end first i v q stop low last ns some h le q_is stop_is inside here low_some low_in own last_in last_some = record {
  rest = rest-set next i v ns h.rest le;
  from = omega (arith, block_of b i some, ap (λ n. n * b) q_is);
  to = omega (arith, stop_is, last_in);
  at_hand = rw length-set (omega (arith, inside, last_in));
  within = rw length-set (omega (arith, here));
  some = low_some;
  low = low-set first low i v ns h.low low_in own;
  order = λ lt. omega (arith, own (last_some (omega (arith, lt))));
}

-- an index before one that was set
pub at-before : (b k next end first i v low : ℕ) (ns : List ℕ) → IsAt b k next end first ns → i < next → 0 < low → low ≤ first → (0 < i → low ≤ i) → IsAt b k next end low (set ns i v)
at-before b k next end first i v low ns h lt low_some low_in own = record {
  rest = λ j le. let other : j ≢ i = omega (arith, le, lt) in get_or-set_other ns i j v 0 other ∙ h.rest j le;
  from = h.from;
  to = h.to;
  at_hand = rw length-set h.at_hand;
  within = rw length-set h.within;
  some = low_some;
  low = low-set first low i v ns h.low low_in own;
  order = λ less. omega (arith, h.order less, low_in);
}

-- the sum of a part fits 128 bits
pub part-small : {X : Type 0} (f : X → ℕ) (xs ys : List X) (greatest b len capacity a w : ℕ) (ss : List ℕ) (shift : Option ℕ) → AreOpen greatest b len capacity (map f xs) ss shift → ys ≡ xs → sum (map f (take w (drop a ys))) < 2 ^ 127
part-small f xs ys greatest b len capacity a w ss shift h same =
    let all = with_zeros (map f xs) len in
    let zeros = sum_below-zeros (map f xs) (len - length (map f xs)) (a + w) in
    let part = ap (λ l. sum (map f (take w (drop a l)))) same in
    omega (arith, part_whole f xs a w, zeros, sum_below-le-sum all (a + w), sum-fits all h.kept.few h.kept.fits, part)

-- the numbers of the list are those of all
at-open : (ns : List ℕ) (len i : ℕ) → get_or (with_zeros ns len) i 0 ≡ get_or ns i 0
at-open ns len i = zeros-at (len - length ns) ns (with_zeros ns len) i refl

-- a number of a prefix, by the numbers of all
front-is : {X : Type 0} (f : X → ℕ) (xs : List X) (k len i : ℕ) → i < k → get_or (map f (take k xs)) i 0 ≡ get_or (with_zeros (map f xs) len) i 0
front-is f xs k len i lt = ap (λ l. get_or l i 0) (sym (take-map f k xs)) ∙ get_or-take k (map f xs) i 0 lt ∙ sym (at-open (map f xs) len i)

-- a number of a part
part-is : {X : Type 0} (f : X → ℕ) (xs : List X) (a w len i : ℕ) → i < w → get_or (map f (take w (drop a xs))) i 0 ≡ get_or (with_zeros (map f xs) len) (a + i) 0
part-is f xs a w len i lt =
    ap (λ l. get_or l i 0) (sym (take-map f w (drop a xs)) ∙ ap (take w) (sym (drop-map f a xs))) ∙ get_or-take w (drop a (map f xs)) i 0 lt ∙ get_or-drop a (map f xs) i 0 ∙ sym (at-open (map f xs) len (a + i))

-- if a prefix before `next` is zeros, all are
pub open-none-set : {X : Type 0} (f : X → ℕ) (xs : List X) (b k next end first len : ℕ) → IsAt b k next end first (map f xs) → AreZeros (map f (take next xs)) → AreZeros (with_zeros (map f xs) len)
open-none-set f xs b k next end first len h zeros = λ i.
    ⊎_elim
    (λ (lt : i < next). sym (front-is f xs next len i lt) ∙ zeros i)
    (λ (ge : next ≤ i). at-open (map f xs) len i ∙ h.rest i ge)
    (cases_lt i next)

pub open-last : {X : Type 0} (f : X → ℕ) (xs : List X) (b k next end first len m : ℕ) → IsAt b k next end first (map f xs) → m < next → IsLastNonzero (map f (take next xs)) m → IsLastNonzero (with_zeros (map f xs) len) m
open-last f xs b k next end first len m h inside (some, above) = (
  omega (arith, front-is f xs next len m inside, some),
  λ i after.
      ⊎_elim
      (λ (lt : i < next). sym (front-is f xs next len i lt) ∙ above i after)
      (λ (ge : next ≤ i). at-open (map f xs) len i ∙ h.rest i ge)
      (cases_lt i next),
)

-- what a search of the prefix before `next` found
pub open-found : {X : Type 0} (f : X → ℕ) (xs ys : List X) (b k next end first len : ℕ) (r : Option ℕ) → IsAt b k next end first (map f xs) → ys ≡ xs → IfSome r (λ m. m < length (take next ys))
    → MatchOption r (AreZeros (map f (take next ys))) (IsLastNonzero (map f (take next ys))) → MatchOption r (AreZeros (with_zeros (map f xs) len)) (IsLastNonzero (with_zeros (map f xs) len))
open-found f xs ys b k next end first len None h is inside zeros = open-none-set f xs b k next end first len h (subst (λ l. AreZeros (map f (take next l))) is zeros)
open-found f xs ys b k next end first len (Some m) h is inside last =
    open-last f xs b k next end first len m h (omega (arith, inside, length-take next ys)) (subst (λ l. IsLastNonzero (map f (take next l)) m) is last)

-- after index 0, a number outside the part from the lower of `first` and `next` up to `next` is 0
outside : {X : Type 0} (f : X → ℕ) (xs : List X) (b k next end first len from i : ℕ) → IsAt b k next end first (map f xs) → from ≡ min first next → 0 < i → i < from → get_or (with_zeros (map f xs) len) i 0 ≡ 0
outside f xs b k next end first len from i h from_is some lt = at-open (map f xs) len i ∙ h.low i some (omega (arith, lt, from_is))

pub open-none-after : {X : Type 0} (f : X → ℕ) (xs : List X) (b k next end first len from : ℕ) → IsAt b k next end first (map f xs) → from ≡ min first next → AreZeros (map f (take (next - from) (drop from xs))) → (i : ℕ) → 0 < i → get_or (with_zeros (map f xs) len) i 0 ≡ 0
open-none-after f xs b k next end first len from h from_is zeros i some =
    ⊎_elim
    (λ (lt : i < from). outside f xs b k next end first len from i h from_is some lt)
    (λ (ge : from ≤ i).
    ⊎_elim
    (λ (lt : i < next).
    let is : from + (i - from) ≡ i = omega (arith, ge) in
    sym (ap (λ j. get_or (with_zeros (map f xs) len) j 0) is) ∙ sym (part-is f xs from (next - from) len (i - from) (omega (arith, lt, ge))) ∙ zeros (i - from))
    (λ (past : next ≤ i). at-open (map f xs) len i ∙ h.rest i past)
    (cases_lt i next))
    (cases_lt i from)

pub open-first : {X : Type 0} (f : X → ℕ) (xs : List X) (b k next end first len from p : ℕ) → IsAt b k next end first (map f xs) → from ≡ min first next → p < next - from → IsFirstNonzero (map f (take (next - from) (drop from xs))) p
    → (0 < get_or (with_zeros (map f xs) len) (from + p) 0) × ((i : ℕ) → 0 < i → i < from + p → get_or (with_zeros (map f xs) len) i 0 ≡ 0)
open-first f xs b k next end first len from p h from_is inside (full, before) = (
  omega (arith, part-is f xs from (next - from) len p inside, full),
  λ i some lt.
      ⊎_elim
      (λ (under : i < from). outside f xs b k next end first len from i h from_is some under)
      (λ (ge : from ≤ i).
      let is : from + (i - from) ≡ i = omega (arith, ge) in
      sym (ap (λ j. get_or (with_zeros (map f xs) len) j 0) is) ∙ sym (part-is f xs from (next - from) len (i - from) (omega (arith, inside, lt, ge))) ∙ before (i - from) (omega (arith, lt, ge)))
      (cases_lt i from),
)

-- numbers that are zeros from an index on
pub front-zeros : (ns : List ℕ) (k : ℕ) → ((i : ℕ) → k ≤ i → get_or ns i 0 ≡ 0) → with_zeros (take k ns) (length ns) ≡ ns
front-zeros ns k rest =
    let front = length-take k ns in
    let len : length (with_zeros (take k ns) (length ns)) ≡ length ns = length-with-zeros (take k ns) (length ns) (omega arith) in
    ext_get_or 0 (with_zeros (take k ns) (length ns)) ns len (λ i lt.
    ⊎_elim
    (λ (x : i < length (take k ns)). get-with-zeros (take k ns) (length ns) i x ∙ get_or-take k ns i 0 (omega arith))
    (λ (x : length (take k ns) ≤ i). get_or-append_right (take k ns) (replicate (length ns - length (take k ns)) 0) (length (take k ns)) i 0 refl x ∙ zero-at (length ns - length (take k ns)) (i - length (take k ns)) ∙ sym (rest i (omega arith)))
    (cases_lt i (length (take k ns))))

-- so the prefix and zeros are all of them
pub copied-numbers : {X : Type 0} (f : X → ℕ) (xs ys zs part : List X) (z : X) (n l used : ℕ) → part ≡ xs → zs ≡ take used part → l ≡ length zs → n ≡ length xs → f z ≡ 0
    → ys ≡ take n zs ++ replicate (n - l) z → ((i : ℕ) → used ≤ i → get_or (map f xs) i 0 ≡ 0) → map f ys ≡ map f xs
copied-numbers f xs ys zs part z n l used part_is zs_is l_is n_is zero_is ys_is rest =
    let is : zs ≡ take used xs = zs_is ∙ ap (take used) part_is in
    let size : length (map f xs) ≡ length xs = length-map xs f in
    let l_too : l ≡ length (take used xs) = l_is ∙ ap (length {A = _}) is in
    let front : map f (take used xs) ≡ take used (map f xs) = sym (take-map f used xs) in
    grown f (take used xs) ys zs z n l is l_too (omega (arith, length-take used xs, n_is)) zero_is ys_is
    ∙ ap (λ l. with_zeros l n) front ∙ ap (with_zeros (take used (map f xs))) (n_is ∙ sym size) ∙ front-zeros (map f xs) used rest
