-- The sums of a list of numbers in blocks, after a write and after more blocks.
use Rattle.std.proofs.Common.{◌≡◌, ℕ, ◌+◌, ◌-◌, ◌*◌, ◌/◌, ◌^◌, ◌<◌, ◌≤◌, ◌≢◌, zero, suc, List, [], ◌∷◌, ◌++◌, length, get_or, set, take, drop, map, replicate, sum, min, Result, MatchResult, is_ok, true, Ok, Err, All, append_assoc, sym, refl, ap, ◌∙◌, arith, ⊎_elim}
use Rattle.std.proofs.lemmas.List.{take-set-le, take-append-le, length-append, length-replicate, length-set, length-take-le, length-drop, length-take, take_all, get_or-take, get_or-set_same, get_or-set_other, get_or_append_left, get_or-append_right, get_or-replicate, take-take, drop-take, length-map, get_or-map, take-map, drop-map, map-set, take_more_set, replicate_more, replicate-append-replicate, map-append}
use Rattle.std.proofs.lemmas.List.Elements.{All-nil, All-cons, All-take, All-drop, All-append}
use Rattle.std.proofs.lemmas.List.Sums.{sum_by-set, sum_by-append, sum_by-cons, sum_by_more, sum_by-take-le, sum_by-le, sum_by-take-drop}
use Rattle.std.proofs.lemmas.Bool.{cases_lt, cases_eq, false≢true}
use Rattle.std.proofs.Math.Seq.{take-set-lt, take-append-add, take-append_seam}
use Rattle.std.proofs.Math.Nat.{mul-le-mul_right, div-lt_iff_lt-mul}
use Rattle.hdr_base.specs.Classes.{most_bins}
use Rattle.hdr_counts.specs.Blocks.{sum_below, AreSums}

-- a write past the numbers summed
pub sum_below-set_past : (ns : List ℕ) (i j n : ℕ) → j ≤ i → sum_below (set ns i n) j ≡ sum_below ns j
sum_below-set_past ns i j n h = ap sum (take-set-le j ns i n h)

-- a write at one of the numbers summed
pub sum_below-set_in : (ns : List ℕ) (i j n : ℕ) → i < j → i < length ns → sum_below (set ns i n) j + get_or ns i 0 ≡ sum_below ns j + n
sum_below-set_in ns i j n h l =
    let e : sum_below (set ns i n) j ≡ sum (set (take j ns) i n) = ap sum (take-set-lt j ns i n h) in
    let m : i < length (take j ns) = rw length-take (omega arith) in
    let f : sum (set (take j ns) i n) + get_or (take j ns) i 0 ≡ sum (take j ns) + n = sum_by-set (λ x. x) (take j ns) i n 0 m in
    let g : get_or (take j ns) i 0 ≡ get_or ns i 0 = get_or-take j ns i 0 h in
    omega (arith, e, f, g)

-- a sum of more numbers, by the sum of those after
pub sum_below-add : (ns : List ℕ) (a j : ℕ) → sum_below ns (a + j) ≡ sum_below ns a + sum_below (drop a ns) j
sum_below-add ns a j =
    let e : sum (take a (take (a + j) ns)) + sum (drop a (take (a + j) ns)) ≡ sum (take (a + j) ns) = sum_by-take-drop (λ x. x) (take (a + j) ns) a in
    let f : sum (take a (take (a + j) ns)) ≡ sum_below ns a = ap sum (take-take a (a + j) ns (omega arith)) in
    let g : sum (drop a (take (a + j) ns)) ≡ sum_below (drop a ns) j = ap sum (drop-take a j ns) in
    omega (arith, e, f, g)

pub sum_below_more : (ns : List ℕ) (i : ℕ) → i < length ns → sum_below ns (i + 1) ≡ sum_below ns i + get_or ns i 0
sum_below_more ns i h = sum_by_more (λ x. x) ns i 0 h

pub sum_below-le : (ns : List ℕ) (i j : ℕ) → i ≤ j → sum_below ns i ≤ sum_below ns j
sum_below-le ns i j h =
    let e : i + (j - i) ≡ j = omega arith in
    let f : sum_below ns (i + (j - i)) ≡ sum_below ns j = ap (sum_below ns) e in
    omega (arith, f, sum_below-add ns i (j - i))

pub sum_below-le-sum : (ns : List ℕ) (i : ℕ) → sum_below ns i ≤ sum ns
sum_below-le-sum ns i = sum_by-take-le (λ x. x) ns i

pub sum_below_all : (ns : List ℕ) (i : ℕ) → length ns ≤ i → sum_below ns i ≡ sum ns
sum_below_all ns i h = ap sum (take_all i ns h)

-- a number is within each sum past it
pub number-le-sum_below : (ns : List ℕ) (i j : ℕ) → i < j → i < length ns → sum_below ns i + get_or ns i 0 ≤ sum_below ns j
number-le-sum_below ns i j h l =
    omega (arith, sum_below_more ns i l, sum_below-le ns (i + 1) j (omega arith))

pub sum-zeros : (m : ℕ) → sum (replicate m 0) ≡ 0
sum-zeros zero = refl
sum-zeros (suc m) = sum-zeros m

sum_below-of_zeros : (m j : ℕ) → sum_below (replicate m 0) j ≡ 0
sum_below-of_zeros m j =
    omega (arith, sum_below-le-sum (replicate m 0) j, sum-zeros m)

-- zeros after change no sum
pub sum_below-zeros : (ns : List ℕ) (m j : ℕ) → sum_below (ns ++ replicate m 0) j ≡ sum_below ns j
sum_below-zeros ns m j =
    ⊎_elim
    (λ (h : j < length ns). ap sum (take-append-le j ns (replicate m 0) (omega arith)))
    (λ (h : length ns ≤ j).
    let e : length ns + (j - length ns) ≡ j = omega arith in
    let f : sum_below (ns ++ replicate m 0) (length ns + (j - length ns)) ≡ sum_below (ns ++ replicate m 0) j = ap (sum_below (ns ++ replicate m 0)) e in
    let a : sum_below (ns ++ replicate m 0) (length ns + (j - length ns)) ≡ sum (ns ++ take (j - length ns) (replicate m 0)) = ap sum (take-append-add ns (replicate m 0) (j - length ns)) in
    let b : sum (ns ++ take (j - length ns) (replicate m 0)) ≡ sum ns + sum_below (replicate m 0) (j - length ns) = sum_by-append (λ x. x) ns (take (j - length ns) (replicate m 0)) in
    omega (arith, f, a, b, sum_below-of_zeros m (j - length ns), sum_below_all ns j (omega arith)))
    (cases_lt j (length ns))

pub All-le-sum : (ns : List ℕ) → All (λ n. n ≤ 18446744073709551615) ns → sum ns ≤ length ns * 18446744073709551615
All-le-sum ns h = sum_by-le (λ x. x) 18446744073709551615 ns h

-- index i lies in block i / b
pub block_of : (b i : ℕ) → 1 ≤ b → (i / b * b ≤ i) × (i < (i / b + 1) * b)
block_of b i h = (omega arith, omega arith)

pub block_in : (b i n : ℕ) → 1 ≤ b → i < n * b → i / b < n
block_in b i n h l = (div-lt_iff_lt-mul h).1 l

-- a block's indices are within those of the blocks up to it
pub block_past : (b k q : ℕ) → k < q → (k + 1) * b ≤ q * b
block_past b k q h =
    let p : k + 1 ≤ q = omega arith in
    mul-le-mul_right b p

pub AreSums-set : (b : ℕ) (ns ss : List ℕ) (i n : ℕ) → AreSums b ns ss → i < length ns → n ≤ 18446744073709551615
    → AreSums b (set ns i n) (set ss (i / b) (get_or ss (i / b) 0 - get_or ns i 0 + n))
AreSums-set b ns ss i n h l m = record {
  some = h.some;
  few = rw length-set h.few;
  whole = rw (length-set, length-set) h.whole;
  each = λ k k_in.
      let k_at : k < length ss = rw length-set at k_in in
      let q : i / b < length ss = block_in b i (length ss) h.some (omega (arith, h.whole)) in
      let at = block_of b i h.some in
      let e = h.each k k_at in
      ⊎_elim
      (λ (lt : k < i / b).
      let p = block_past b k (i / b) lt in
      let ne : k ≢ i / b = omega arith in
      rw (sum_below-set_past ns i (k * b) n (omega (arith, p, at)), sum_below-set_past ns i ((k + 1) * b) n (omega (arith, p, at)), get_or-set_other ss (i / b) k (get_or ss (i / b) 0 - get_or ns i 0 + n) 0 ne) e)
      (λ (ge : i / b ≤ k).
      ⊎_elim
      (λ (is : k ≡ i / b).
      let at_k : (k * b ≤ i) × (i < (k + 1) * b) = rw is at in
      let before = sum_below-set_past ns i (k * b) n at_k.0 in
      let after = sum_below-set_in ns i ((k + 1) * b) n at_k.1 l in
      let put : get_or (set ss (i / b) (get_or ss (i / b) 0 - get_or ns i 0 + n)) k 0 ≡ get_or ss k 0 - get_or ns i 0 + n = rw is (get_or-set_same ss (i / b) (get_or ss (i / b) 0 - get_or ns i 0 + n) 0 q) in
      let old : sum_below ns i + get_or ns i 0 ≤ sum_below ns ((k + 1) * b) = number-le-sum_below ns i ((k + 1) * b) at_k.1 l in
      let from : sum_below ns (k * b) ≤ sum_below ns i = sum_below-le ns (k * b) i at_k.0 in
      omega (arith, before, after, put, old, from, e))
      (λ (no : k ≢ i / b).
      let p = block_past b (i / b) k (omega arith) in
      let past : i < k * b = omega (arith, p, at) in
      let past_too : i < (k + 1) * b = omega (arith, p, at) in
      let before = sum_below-set_in ns i (k * b) n past l in
      let after = sum_below-set_in ns i ((k + 1) * b) n past_too l in
      let put = get_or-set_other ss (i / b) k (get_or ss (i / b) 0 - get_or ns i 0 + n) 0 no in
      omega (arith, before, after, put, e))
      (cases_eq k (i / b)))
      (cases_lt k (i / b));
  fits = λ k d k_in.
      let k_at : k < length ns = rw length-set at k_in in
      ⊎_elim
      (λ (is : k ≡ i). rw (is, get_or-set_same ns i n d l) m)
      (λ (no : k ≢ i). rw (get_or-set_other ns i k n d no) (h.fits k d k_at))
      (cases_eq k i);
}

-- in blocks, a longer list has no fewer blocks
pub blocks_more : (b m n : ℕ) → 1 ≤ b → m * b ≤ n * b → m ≤ n
blocks_more b m n h l =
    ⊎_elim
    (λ (lt : n < m). let p = block_past b n m lt in absurd (omega (arith, p)))
    (λ (ge : m ≤ n). ge)
    (cases_lt n m)

pub AreSums-grow : (b : ℕ) (ns ss : List ℕ) (blocks : ℕ) → AreSums b ns ss → length ns ≤ blocks * b → blocks * b ≤ most_bins
    → AreSums b (ns ++ replicate (blocks * b - length ns) 0) (ss ++ replicate (blocks - length ss) 0)
AreSums-grow b ns ss blocks h l m =
    let more : length ss ≤ blocks = blocks_more b (length ss) blocks h.some (omega (arith, h.whole)) in
    let ns_len : length (ns ++ replicate (blocks * b - length ns) 0) ≡ blocks * b = simp (length-append, length-replicate) (omega arith) in
    let ss_len : length (ss ++ replicate (blocks - length ss) 0) ≡ blocks = simp (length-append, length-replicate) (omega arith) in
    record {
      some = h.some;
      few = rw ns_len m;
      whole = rw (ns_len, ss_len) refl;
      each = λ k k_in.
          let k_at : k < blocks = rw ss_len at k_in in
          rw (sum_below-zeros ns (blocks * b - length ns) (k * b), sum_below-zeros ns (blocks * b - length ns) ((k + 1) * b))
          (⊎_elim
          (λ (lt : k < length ss).
          let e : get_or (ss ++ replicate (blocks - length ss) 0) k 0 ≡ get_or ss k 0 = get_or_append_left ss (replicate (blocks - length ss) 0) 0 k lt in
          omega (arith, e, h.each k lt))
          (λ (ge : length ss ≤ k).
          let p : length ss * b ≤ k * b = mul-le-mul_right b ge in
          let none : get_or (ss ++ replicate (blocks - length ss) 0) k 0 ≡ get_or (replicate (blocks - length ss) 0) (k - length ss) 0 = get_or-append_right ss (replicate (blocks - length ss) 0) (length ss) k 0 refl ge in
          let in_zeros : k - length ss < blocks - length ss = omega arith in
          let zero_there : get_or {A = ℕ} (replicate (blocks - length ss) 0) (k - length ss) 0 ≡ 0 = get_or-replicate (blocks - length ss) (k - length ss) 0 0 (omega arith) in
          let past : length ns ≤ k * b = omega (arith, p, h.whole) in
          let past_too : length ns ≤ (k + 1) * b = omega (arith, p, h.whole) in
          let upto = sum_below_all ns (k * b) past in
          let upto_too = sum_below_all ns ((k + 1) * b) past_too in
          omega (arith, none, zero_there, upto, upto_too))
          (cases_lt k (length ss)));
      fits = λ k d k_in.
          let k_at : k < blocks * b = rw ns_len at k_in in
          ⊎_elim
          (λ (lt : k < length ns). rw (get_or_append_left ns (replicate (blocks * b - length ns) 0) d k lt) (h.fits k d lt))
          (λ (ge : length ns ≤ k).
          let none : get_or (ns ++ replicate (blocks * b - length ns) 0) k d ≡ get_or (replicate (blocks * b - length ns) 0) (k - length ns) d = get_or-append_right ns (replicate (blocks * b - length ns) 0) (length ns) k d refl ge in
          let zero_there : get_or {A = ℕ} (replicate (blocks * b - length ns) 0) (k - length ns) d ≡ 0 = get_or-replicate (blocks * b - length ns) (k - length ns) 0 d (omega arith) in
          omega (arith, none, zero_there))
          (cases_lt k (length ns));
    }

-- a running sum of the numbers of a list, one element on
pub sum_below_map_more : {X : Type 0} (f : X → ℕ) (xs : List X) (i : ℕ) (x : X) → i < length xs → x ≡ get_or xs i x → sum_below (map f xs) (i + 1) ≡ sum_below (map f xs) i + f x
sum_below_map_more f xs i x h e =
    let l : i < length (map f xs) = rw length-map h in
    let g : get_or (map f xs) i 0 ≡ f (get_or xs i x) = get_or-map f xs i x 0 h in
    let k : f x ≡ f (get_or xs i x) = ap f e in
    omega (arith, sum_below_more (map f xs) i l, g, k)

-- the sum of so few numbers of 64 bits
pub sum-fits : (ns : List ℕ) → length ns ≤ most_bins → All (λ n. n ≤ 18446744073709551615) ns → sum ns < 2 ^ 127
sum-fits ns few fit = omega (arith, All-le-sum ns fit)

-- a running sum over a part of a list, on top of the sum before the part
pub part_sum : {X : Type 0} (f : X → ℕ) (xs : List X) (a w j : ℕ) → j ≤ w → sum_below (map f xs) (a + j) ≡ sum_below (map f xs) a + sum_below (map f (take w (drop a xs))) j
part_sum f xs a w j h =
    let e : map f (take w (drop a xs)) ≡ take w (drop a (map f xs)) = sym (take-map f w (drop a xs)) ∙ ap (take w) (sym (drop-map f a xs)) in
    let t : sum_below (take w (drop a (map f xs))) j ≡ sum_below (drop a (map f xs)) j = ap sum (take-take j w (drop a (map f xs)) h) in
    let q : sum_below (map f (take w (drop a xs))) j ≡ sum_below (take w (drop a (map f xs))) j = ap (λ l. sum_below l j) e in
    omega (arith, sum_below-add (map f xs) a j, t, q)

pub part_whole : {X : Type 0} (f : X → ℕ) (xs : List X) (a w : ℕ) → sum_below (map f xs) (a + w) ≡ sum_below (map f xs) a + sum (map f (take w (drop a xs)))
part_whole f xs a w =
    let l : length (map f (take w (drop a xs))) ≤ w = rw (length-map, length-take) (omega arith) in
    omega (arith, part_sum f xs a w w (omega arith), sum_below_all (map f (take w (drop a xs))) w l)

-- a running sum over the first blocks, one block on
pub blocks_sum_more : (b : ℕ) (ns ss xs : List ℕ) (k j : ℕ) → AreSums b ns ss → xs ≡ ss → j < length (take k xs) → sum_below ns (j * b) + get_or (take k xs) j 0 ≡ sum_below ns ((j + 1) * b)
blocks_sum_more b ns ss xs k j h e l =
    let m : j < min k (length xs) = rw length-take at l in
    let n : length xs ≡ length ss = ap length e in
    let s : get_or xs j 0 ≡ get_or ss j 0 = ap (λ q. get_or q j 0) e in
    omega (arith, get_or-take k xs j 0 (omega arith), s, h.each j (omega arith))

pub clear_more : {X : Type 0} (f : X → ℕ) (xs : List X) (i : ℕ) (x : X) → i < length xs → take i (map f xs) ≡ replicate i 0 → f x ≡ 0 → take (i + 1) (map f (set xs i x)) ≡ replicate (i + 1) 0
clear_more f xs i x h e z =
    let l : i < length (map f xs) = rw length-map h in
    let a : take (i + 1) (map f (set xs i x)) ≡ take (i + 1) (set (map f xs) i (f x)) = ap (take (i + 1)) (map-set f xs i x) in
    let b : take (i + 1) (set (map f xs) i (f x)) ≡ take i (map f xs) ++ f x ∷ [] = take_more_set (map f xs) i (f x) l in
    let m : replicate i 0 ++ 0 ∷ [] ≡ replicate (i + 1) 0 = replicate_more i 0 in
    a ∙ (b ∙ (rw (e, z) m))

map-zeros : {X : Type 0} (f : X → ℕ) (z : X) (m : ℕ) → f z ≡ 0 → map f (replicate m z) ≡ replicate m 0
map-zeros f z zero e = refl
map-zeros f z (suc m) e = rw (e, map-zeros f z m e) refl

-- a list that a call resized, by its numbers
pub grown : {X : Type 0} (f : X → ℕ) (xs ys zs : List X) (z : X) (n l : ℕ) → zs ≡ xs → l ≡ length xs → length xs ≤ n → f z ≡ 0 → ys ≡ take n zs ++ replicate (n - l) z → map f ys ≡ map f xs ++ replicate (n - length (map f xs)) 0
grown f xs ys zs z n l e m h z_is y =
    let t : take n zs ≡ xs = ap (take n) e ∙ take_all n xs h in
    let a : map f ys ≡ map f (take n zs ++ replicate (n - l) z) = ap (map f) y in
    let b : map f (take n zs ++ replicate (n - l) z) ≡ map f (take n zs) ++ map f (replicate (n - l) z) = map-append f (take n zs) (replicate (n - l) z) in
    let c : map f (take n zs) ≡ map f xs = ap (map f) t in
    let d : map f (replicate (n - l) z) ≡ replicate (n - l) 0 = map-zeros f z (n - l) z_is in
    let k : n - l ≡ n - length (map f xs) = rw length-map (ap (λ q. n - q) m) in
    let u : map f (take n zs) ++ map f (replicate (n - l) z) ≡ map f xs ++ replicate (n - length (map f xs)) 0 = rw (c, d, k) refl in
    a ∙ (b ∙ u)

pub ok_only : {A E : Type 0} (r : Result A E) (P : A → Type 0) (Q : E → Type 0) → is_ok r ≡ true → ((x : A) → P x) → MatchResult r P Q
ok_only (Ok x) P Q h p = p x
ok_only (Err e) P Q h p = absurd (false≢true h)

-- the sums that a call resized
pub sums_grown : (b : ℕ) (ns ss zs : List ℕ) (blocks l : ℕ) → AreSums b ns ss → length ns ≤ blocks * b → l ≡ length ss → zs ≡ take blocks ss ++ replicate (blocks - l) 0 → zs ≡ ss ++ replicate (blocks - length ss) 0
sums_grown b ns ss zs blocks l h m k e =
    let more : length ss ≤ blocks = blocks_more b (length ss) blocks h.some (omega (arith, h.whole)) in
    let t : take blocks ss ≡ ss = take_all blocks ss more in
    e ∙ rw (t, k) refl

-- a number of a list at an index
pub number-at : {X : Type 0} (f : X → ℕ) (xs : List X) (i : ℕ) (x : X) → i < length xs → x ≡ get_or xs i x → f x ≡ get_or (map f xs) i 0
number-at f xs i x at is = ap f is ∙ sym (get_or-map f xs i x 0 at)

-- a block's sum, by its numbers
pub block-sum : {X : Type 0} (f : X → ℕ) (xs : List X) (b k : ℕ) (ss : List ℕ) → AreSums b (map f xs) ss → k < length ss → get_or ss k 0 ≡ sum (map f (take b (drop (k * b) xs)))
block-sum f xs b k ss h lt =
    let e : k * b + b ≡ (k + 1) * b = omega arith in
    omega (arith, h.each k lt, part_whole f xs (k * b) b, ap (sum_below (map f xs)) e)

-- a block of a list written anew, and the sums up to an index before it and after it
module _ (ns part : List ℕ) (a b : ℕ) (len : length part ≡ b) (room : a + b ≤ length ns) where
  written : List ℕ
  written = take a ns ++ (part ++ drop (a + b) ns)

  written-before : (j : ℕ) → j ≤ a → sum_below written j ≡ sum_below ns j
  unfolding written
  written-before j le =
      let front : j ≤ length (take a ns) = rw length-take (omega arith) in
      ap sum (take-append-le j (take a ns) (part ++ drop (a + b) ns) front ∙ take-take j a ns le)

  written-behind : (j : ℕ) → a + b ≤ j → sum_below written j + sum (take b (drop a ns)) ≡ sum_below ns j + sum part
  unfolding written
  written-behind j le =
      let r = j - (a + b) in
      let front : length (take a ns) ≡ a = length-take-le a ns (omega arith) in
      let split : j ≡ length (take a ns) + (length part + r) = omega (arith, front, len) in
      let whole : take j (take a ns ++ (part ++ drop (a + b) ns)) ≡ take a ns ++ (part ++ take r (drop (a + b) ns)) =
      ap (λ i. take i (take a ns ++ (part ++ drop (a + b) ns))) split ∙ take-append-add (take a ns) (part ++ drop (a + b) ns) (length part + r)
      ∙ ap (λ xs. take a ns ++ xs) (take-append-add part (drop (a + b) ns) r) in
      let sums : sum (take a ns ++ (part ++ take r (drop (a + b) ns))) ≡ sum_below ns a + (sum part + sum_below (drop (a + b) ns) r) =
      sum_by-append (λ x. x) (take a ns) (part ++ take r (drop (a + b) ns)) ∙ ap (λ n. sum_below ns a + n) (sum_by-append (λ x. x) part (take r (drop (a + b) ns))) in
      let was : sum_below ns j ≡ sum_below ns (a + b) + sum_below (drop (a + b) ns) r = (let e : j ≡ a + b + r = omega arith in ap (sum_below ns) e) ∙ sum_below-add ns (a + b) r in
      let middle = sum_below-add ns a b in
      omega (arith, ap sum whole, sums, was, middle)

  written-fits : All (λ n. n ≤ 18446744073709551615) ns → All (λ n. n ≤ 18446744073709551615) part → All (λ n. n ≤ 18446744073709551615) written
  unfolding written
  written-fits h p =
      let P = λ (n : ℕ). n ≤ 18446744073709551615 in
      All-append P (take a ns) (part ++ drop (a + b) ns) (All-take P a ns h) (All-append P part (drop (a + b) ns) p (All-drop P (a + b) ns h))

  written-length : length written ≡ length ns
  unfolding written
  written-length = simp (length-append, length-append, length-take, length-drop) (omega (arith, len))

pub AreSums-written : (b k : ℕ) (ns part ss : List ℕ) (s : ℕ) → AreSums b ns ss → k < length ss → length part ≡ b → s ≡ sum part → All (λ n. n ≤ 18446744073709551615) part
    → AreSums b (take (k * b) ns ++ (part ++ drop (k * b + b) ns)) (set ss k s)
unfolding written
AreSums-written b k ns part ss s h lt len is fit =
    let a = k * b in
    let here : a + b ≡ (k + 1) * b = omega arith in
    let room : a + b ≤ length ns = omega (arith, block_past b k (length ss) lt, h.whole) in
    let size = written-length ns part a b len room in
    let was : sum (take b (drop a ns)) ≡ get_or ss k 0 = omega (arith, h.each k lt, sum_below-add ns a b, ap (sum_below ns) here) in
    record {
      some = h.some;
      few = omega (arith, size, h.few);
      whole = omega (arith, size, h.whole, ap (λ n. n * b) (length-set ss k s));
      each = λ j j_in.
          let j_at : j < length ss = rw length-set at j_in in
          let e = h.each j j_at in
          ⊎_elim
          (λ (less : j < k).
          let p = block_past b j k less in
          omega (arith, written-before ns part a b len room (j * b) (omega (arith, p)), written-before ns part a b len room ((j + 1) * b) (omega (arith, p)), get_or-set_other ss k j s 0 (omega arith), e))
          (λ (not_less : k ≤ j).
          ⊎_elim
          (λ (more : k < j).
          let p = block_past b k j more in
          omega (arith, written-behind ns part a b len room (j * b) (omega (arith, p)), written-behind ns part a b len room ((j + 1) * b) (omega (arith, p)), get_or-set_other ss k j s 0 (omega arith), e))
          (λ (no_more : j ≤ k).
          let same : j ≡ k = omega arith in
          let put : get_or (set ss k s) j 0 ≡ s = ap (λ i. get_or (set ss k s) i 0) same ∙ get_or-set_same ss k s 0 lt in
          let at : j * b ≡ a = ap (λ i. i * b) same in
          omega (arith, written-before ns part a b len room (j * b) (omega (arith, at)), written-behind ns part a b len room ((j + 1) * b) (omega (arith, at)), put, is, was, ap (λ i. get_or ss i 0) same, e))
          (cases_lt k j))
          (cases_lt j k);
      fits = written-fits ns part a b len room h.fits fit;
    }

-- the same, of lists that were read
pub block-sum-read : {X : Type 0} (f : X → ℕ) (xs l : List X) (b k w : ℕ) (ss r : List ℕ) → AreSums b (map f xs) ss → k < length r → r ≡ ss → l ≡ xs → w ≡ b
    → get_or r k 0 ≡ sum (map f (take w (drop (k * b) l)))
block-sum-read f xs l b k w ss r h lt sums_are read wide =
    ap (λ q. get_or q k 0) sums_are ∙ block-sum f xs b k ss h (omega (arith, ap length sums_are)) ∙ ap (λ v. sum (map f (take v (drop (k * b) xs)))) (sym wide) ∙ ap (λ q. sum (map f (take w (drop (k * b) q)))) (sym read)

-- ---- zeros

-- numbers that sum to 0 are 0
pub zeros-of : {X : Type 0} (f : X → ℕ) (xs : List X) → sum (map f xs) ≡ 0 → map f xs ≡ replicate (length xs) 0
zeros-of f [] e = refl
zeros-of f (x ∷ xs) e =
    let s = sum_by-cons (λ n. n) (f x) (map f xs) in
    let first : f x ≡ 0 = omega (arith, s) in
    ap (λ n. n ∷ map f xs) first ∙ ap (λ ns. 0 ∷ ns) (zeros-of f xs (omega (arith, s)))

pub All-zeros : (n : ℕ) → All (λ m. m ≤ 18446744073709551615) (replicate n 0)
All-zeros zero = All-nil _
All-zeros (suc n) = All-cons (λ m. m ≤ 18446744073709551615) 0 (replicate n 0) (omega arith) (All-zeros n)

-- a block of zeros written after zeros
pub zeros-written : (ns : List ℕ) (a b : ℕ) → a + b ≤ length ns → take a ns ≡ replicate a 0
    → take (a + b) (take a ns ++ (replicate b 0 ++ drop (a + b) ns)) ≡ replicate (a + b) 0
zeros-written ns a b room zeros =
    let first : take a ns ++ (replicate b 0 ++ drop (a + b) ns) ≡ replicate a 0 ++ (replicate b 0 ++ drop (a + b) ns) = ap (λ l. l ++ (replicate b 0 ++ drop (a + b) ns)) zeros in
    let whole : replicate a 0 ++ (replicate b 0 ++ drop (a + b) ns) ≡ replicate (a + b) 0 ++ drop (a + b) ns = sym (append_assoc (replicate a 0) (replicate b 0) (drop (a + b) ns)) ∙ ap (λ l. l ++ drop (a + b) ns) (replicate-append-replicate a b 0) in
    ap (take (a + b)) (first ∙ whole) ∙ ap (λ n. take n (replicate (a + b) 0 ++ drop (a + b) ns)) (sym (length-replicate (a + b) 0)) ∙ take-append_seam (replicate (a + b) 0) (drop (a + b) ns)
