-- What is true of every histogram is kept.
use Rattle.std.proofs.Common.{◌≡◌, ℕ, zero, suc, ◌+◌, ◌-◌, ◌*◌, ◌^◌, ◌<◌, ◌≤◌, Bool, true, false, cond, Option, min, List, [], ◌∷◌, ◌++◌, length, get_or, set, replicate, map, leb, refl, sym, ap, ◌∙◌, arith, inl, inr, None, Some, IfSome, sum, eqb, eqb-true, ◌≢◌}
use Rattle.std.proofs.lemmas.Bool.Decides.{nat_tests}
use Rattle.std.proofs.lemmas.Bool.{cases_lt}
use Rattle.std.proofs.lemmas.List.{length-set, length-replicate, length-append, get_or-set_other, get_or-set_same, get_or-replicate, get_or_past}
use Rattle.std.proofs.lemmas.List.Elements.{All-set, All-append, All-replicate}
use Rattle.hdr_base.specs.Classes.{Resolution, bucket, bin_of, reach_of, HasScale, resolution_of, bins_to}
use Rattle.std.proofs.lemmas.List.Sums.{sum_by-set, get_or-le-sum_by, sum_by-append}
use Rattle.std.proofs.lemmas.List.Folds.{sum_by-replicate}
use Rattle.hdr_base.proofs.ClassesLaws.{bin-mono}
use Rattle.hdr_counts.specs.Blocks.{Blocks}
use Rattle.hdr_model.specs.Plain.{Plain, IsPlain, resolution, reach, empty_plain}
use Rattle.hdr_model.specs.Marks.{IsAbove, IsBelow, later_mark, earlier_mark}
use Rattle.hdr_model.specs.Recording.{with_bins_to, with_bins_for, after_add_to_bin, after_record}
use Rattle.hdr_base.proofs.ClassesReach.{reach-holds, reach-reach, reach-fits, bins-blocks, within-bins, past-bins, bins-mono}
use Rattle.hdr_base.proofs.ClassesDigits.{digits-pos}

-- a histogram whose parts are those of an added count
pub added-parts : (greatest : ℕ) (h : Plain) (i n : ℕ) (counts : List ℕ) (total : ℕ) (top low : Option ℕ)
    → counts ≡ set h.counts i (min (get_or h.counts i 0 + n) greatest) → total ≡ min (h.total + n) (2 ^ 64 - 1) → top ≡ later_mark h.top_mark i → low ≡ earlier_mark h.lower_mark i
    → record h { counts = counts; total = total; top_mark = top; lower_mark = low } ≡ after_add_to_bin greatest h i n
unfolding after_add_to_bin
added-parts greatest h i n counts total top low a b c d = rw (a, b, c, d) refl

not-zero : (i : ℕ) → eqb i 0 ≡ false → 0 < i
not-zero zero e = cc
not-zero (suc i) e = omega arith

pub above-later : (mark : Option ℕ) (i j : ℕ) → IsAbove (later_mark mark i) j → IsAbove mark j × (i < j)
above-later None i j h = (tt, h)
above-later (Some m) i j h = (omega arith, omega arith)

pub below-earlier : (mark : Option ℕ) (i j : ℕ) → IsBelow (earlier_mark mark i) j → IsBelow mark j × (i ≢ j)
below-earlier None i j =
    let step : (b : Bool) → eqb i 0 ≡ b → IsBelow (cond b None (Some i)) j → (0 < j) × (i ≢ j) =
    λ b. elim b as (λ b. eqb i 0 ≡ b → IsBelow (cond b None (Some i)) j → (0 < j) × (i ≢ j)) [
      | true ↦ λ e h. (h, λ s. (let z : i ≡ 0 = eqb-true i 0 e in absurd (omega arith)))
      | false ↦ λ e h. (h.0, λ s. absurd (omega (arith, h.1)))
    ] in
    step (eqb i 0) refl
below-earlier (Some m) i j =
    let step : (b : Bool) → eqb i 0 ≡ b → IsBelow (cond b (Some m) (Some (min m i))) j → ((0 < j) × (j < m)) × (i ≢ j) =
    λ b. elim b as (λ b. eqb i 0 ≡ b → IsBelow (cond b (Some m) (Some (min m i))) j → ((0 < j) × (j < m)) × (i ≢ j)) [
      | true ↦ λ e h. (h, λ s. (let z : i ≡ 0 = eqb-true i 0 e in absurd (omega (arith, h.0))))
      | false ↦ λ e h. ((h.0, omega (arith, h.1)), λ s. absurd (omega (arith, h.1)))
    ] in
    step (eqb i 0) refl

pub later-in : (mark : Option ℕ) (i n : ℕ) → i < n → IfSome mark (λ k. k < n) → IfSome (later_mark mark i) (λ k. k < n)
later-in None i n lt h = lt
later-in (Some m) i n lt h = omega arith

pub earlier-in : (mark : Option ℕ) (i n : ℕ) → i < n → IfSome mark (λ k. (0 < k) × (k < n)) → IfSome (earlier_mark mark i) (λ k. (0 < k) × (k < n))
earlier-in None i n lt h =
    let step : (b : Bool) → eqb i 0 ≡ b → IfSome (cond b None (Some i)) (λ k. (0 < k) × (k < n)) =
    λ b. elim b as (λ b. eqb i 0 ≡ b → IfSome (cond b None (Some i)) (λ k. (0 < k) × (k < n))) [
      | true ↦ λ e. tt
      | false ↦ λ e. (not-zero i e, lt)
    ] in
    step (eqb i 0) refl
earlier-in (Some m) i n lt h =
    let step : (b : Bool) → eqb i 0 ≡ b → IfSome (cond b (Some m) (Some (min m i))) (λ k. (0 < k) × (k < n)) =
    λ b. elim b as (λ b. eqb i 0 ≡ b → IfSome (cond b (Some m) (Some (min m i))) (λ k. (0 < k) × (k < n))) [
      | true ↦ λ e. h
      | false ↦ λ e. (let pos : 0 < i = not-zero i e in (omega (arith, h.0), omega (arith, h.1)))
    ] in
    step (eqb i 0) refl

-- marks stay marks of more bins
top-more : (mark : Option ℕ) (n k : ℕ) → n ≤ k → IfSome mark (λ i. i < n) → IfSome mark (λ i. i < k)
top-more None n k le h = tt
top-more (Some m) n k le h = omega arith

lower-more : (mark : Option ℕ) (n k : ℕ) → n ≤ k → IfSome mark (λ i. (0 < i) × (i < n)) → IfSome mark (λ i. (0 < i) × (i < k))
lower-more None n k le h = tt
lower-more (Some m) n k le h = (h.0, omega (arith, h.1))

pub IsPlain-added : (greatest : ℕ) (h : Plain) (i n : ℕ) → 1 ≤ greatest → i < length h.counts → IsPlain greatest h → IsPlain greatest (after_add_to_bin greatest h i n)
unfolding after_add_to_bin
IsPlain-added greatest h i n one room p =
    let sums = sum_by-set (λ x. x) h.counts i (min (get_or h.counts i 0 + n) greatest) 0 room in
    let part = get_or-le-sum_by (λ x. x) h.counts i 0 room in
    record {
      scale = p.scale;
      high_fits = p.high_fits;
      wide = p.wide;
      bins = length-set h.counts i _ ∙ p.bins;
      numbers_fit = All-set (λ n. n ≤ greatest) h.counts i _ (omega arith) p.numbers_fit;
      total_fits = omega arith;
      total_covers = omega (arith, sums, p.total_covers);
      empty = λ e. (
          let none : h.total ≡ 0 = omega arith in
          omega (arith, sums, p.empty none, part)
          );
      nothing = λ e. (
          let none : min (get_or h.counts i 0 + n) greatest ≡ 0 = omega (arith, sums, get_or-le-sum_by (λ x. x) (set h.counts i (min (get_or h.counts i 0 + n) greatest)) i 0 (rw length-set room), get_or-set_same h.counts i (min (get_or h.counts i 0 + n) greatest) 0 room) in
          omega (arith, p.nothing (omega (arith, sums)))
          );
      top_in_bins = rw length-set (later-in h.top_mark i (length h.counts) room p.top_in_bins);
      lower_in_bins = rw length-set (earlier-in h.lower_mark i (length h.counts) room p.lower_in_bins);
      none_above = λ j above.
          let other = above-later h.top_mark i j above in
          get_or-set_other h.counts i j _ 0 (omega (arith, other.1)) ∙ p.none_above j other.0;
      none_below = λ j below.
          let other = below-earlier h.lower_mark i j below in
          get_or-set_other h.counts i j _ 0 (λ e. other.1 (sym e)) ∙ p.none_below j other.0;
    }

-- zeros after a list change no number and no sum
pub zeros-behind : (xs : List ℕ) (n i : ℕ) → get_or (xs ++ replicate n 0) i 0 ≡ get_or xs i 0
zeros-behind [] n i =
    elim (cases_lt i n) [ inl lt ↦ get_or-replicate n i 0 0 lt | inr ge ↦ get_or_past (replicate n 0) i 0 (rw length-replicate ge) ]
zeros-behind (x ∷ xs) n zero = refl
zeros-behind (x ∷ xs) n (suc i) = zeros-behind xs n i

pub zeros-sum : (xs : List ℕ) (n : ℕ) → sum (xs ++ replicate n 0) ≡ sum xs
zeros-sum xs n = omega (arith, sum_by-append (λ x. x) xs (replicate n 0), sum_by-replicate (λ x. x) n 0)

pub map-replicate : {X Y : Type 0} (f : X → Y) (n : ℕ) (x : X) → map f (replicate n x) ≡ replicate n (f x)
map-replicate f zero x = refl
map-replicate f (suc n) x = ap (λ ys. f x ∷ ys) (map-replicate f n x)

pub leb-no : (a b : ℕ) → b < a → leb a b ≡ false
leb-no a b h = grind (arith, nat_tests)

pub leb-yes : (a b : ℕ) → a ≤ b → leb a b ≡ true
leb-yes a b h = grind (arith, nat_tests)

pub widened-same : (h : Plain) (v : ℕ) → v ≤ reach h → with_bins_for h v ≡ h
unfolding with_bins_for
widened-same h v le = rw (leb-yes v (reach h) le) refl

pub widened-more : (h : Plain) (v : ℕ) → reach h < v → with_bins_for h v ≡ with_bins_to h (reach_of (resolution h) v)
unfolding with_bins_for
widened-more h v lt = rw (leb-no v (reach h) lt) refl

-- the digits of a histogram's classes
pub resolution-digits : (greatest : ℕ) (h : Plain) → IsPlain greatest h → 0 < (resolution h).digits
unfolding resolution_of
resolution-digits greatest h p = digits-pos h.sigfig

pub resolution-fits : (greatest : ℕ) (h : Plain) → IsPlain greatest h → (resolution h).unit + (resolution h).digits ≤ 63
unfolding resolution_of
resolution-fits greatest h p = p.scale.fits

pub grows : (greatest : ℕ) (h : Plain) (v : ℕ) → IsPlain greatest h → reach h < v → length h.counts ≤ bins_to (resolution h) v
unfolding reach
grows greatest h v p lt = omega (arith, p.bins, bins-mono (resolution h) h.high v (resolution-digits greatest h p) lt)

pub bins-of-reach : (g : Resolution) (v : ℕ) → bins_to g (reach_of g v) ≡ bins_to g v
unfolding bins_to
bins-of-reach g v = ap (λ r. bin_of g r + 1) (reach-reach g v)

pub length-grown : (greatest : ℕ) (h : Plain) (x : ℕ) → IsPlain greatest h → reach h < x → length (with_bins_to h x).counts ≡ bins_to (resolution h) x
unfolding with_bins_to
length-grown greatest h x p lt =
    length-append h.counts (replicate (bins_to (resolution h) x - length h.counts) 0)
    ∙ ap (λ n. length h.counts + n) (length-replicate (bins_to (resolution h) x - length h.counts) 0)
    ∙ (let e : length h.counts + (bins_to (resolution h) x - length h.counts) ≡ bins_to (resolution h) x = omega (arith, grows greatest h x p lt) in e)

wide-past : (h : Plain) (x : ℕ) → 2 * h.low ≤ h.high → reach h < x → 2 * h.low ≤ x
unfolding reach
wide-past h x wide lt = omega (arith, wide, lt, reach-holds (resolution h) h.high)

pub IsPlain-grown : (greatest : ℕ) (h : Plain) (x : ℕ) → IsPlain greatest h → x < 2 ^ 64 → reach h < x → IsPlain greatest (with_bins_to h x)
unfolding with_bins_to
IsPlain-grown greatest h x p small lt =
    let len = length-grown greatest h x p lt in
    let more : length h.counts ≤ length (h.counts ++ replicate (bins_to (resolution h) x - length h.counts) 0) = omega (arith, len, grows greatest h x p lt) in
    record {
      scale = p.scale;
      high_fits = small;
      wide = wide-past h x p.wide lt;
      bins = len;
      numbers_fit = All-append (λ n. n ≤ greatest) h.counts _ p.numbers_fit (All-replicate (λ n. n ≤ greatest) _ 0 (omega arith));
      total_fits = p.total_fits;
      total_covers = omega (arith, zeros-sum h.counts (bins_to (resolution h) x - length h.counts), p.total_covers);
      empty = λ e. zeros-sum h.counts (bins_to (resolution h) x - length h.counts) ∙ p.empty e;
      nothing = λ e. p.nothing (sym (zeros-sum h.counts (bins_to (resolution h) x - length h.counts)) ∙ e);
      top_in_bins = top-more h.top_mark (length h.counts) _ more p.top_in_bins;
      lower_in_bins = lower-more h.lower_mark (length h.counts) _ more p.lower_in_bins;
      none_above = λ i above. zeros-behind h.counts (bins_to (resolution h) x - length h.counts) i ∙ p.none_above i above;
      none_below = λ i below. zeros-behind h.counts (bins_to (resolution h) x - length h.counts) i ∙ p.none_below i below;
    }

-- a value is within the reach if and only if its class has a bin
pub room-in : (greatest : ℕ) (h : Plain) (v : ℕ) → IsPlain greatest h → v ≤ reach h → bin_of (resolution h) v < length h.counts
unfolding reach
room-in greatest h v p le = omega (arith, p.bins, within-bins (resolution h) h.high v (resolution-digits greatest h p) le)

pub room-of : (greatest : ℕ) (h : Plain) (v : ℕ) → IsPlain greatest h → bin_of (resolution h) v < length h.counts → v ≤ reach h
unfolding reach
room-of greatest h v p lt =
    elim (cases_lt (reach_of (resolution h) h.high) v) [
      | inl past ↦ absurd (omega (arith, p.bins, past-bins (resolution h) h.high v (resolution-digits greatest h p) past))
      | inr le ↦ le
    ]

-- the bins of a value's reach
pub bins-enough : (greatest : ℕ) (h : Plain) (v : ℕ) → IsPlain greatest h → bin_of (resolution h) v < bins_to (resolution h) v
bins-enough greatest h v p = within-bins (resolution h) v v (resolution-digits greatest h p) (reach-holds (resolution h) v)

pub past-reach : (greatest : ℕ) (h : Plain) (v : ℕ) → IsPlain greatest h → reach h < v → reach h < reach_of (resolution h) v
past-reach greatest h v p past = omega (arith, reach-holds (resolution h) v)

pub room-widened : (greatest : ℕ) (h : Plain) (v : ℕ) → IsPlain greatest h → v < 2 ^ 64 → reach h < v → bin_of (resolution h) v < length (with_bins_to h (reach_of (resolution h) v)).counts
room-widened greatest h v p small past =
    omega (arith, length-grown greatest h (reach_of (resolution h) v) p (past-reach greatest h v p past), bins-enough greatest h v p, bins-of-reach (resolution h) v)

-- recording keeps the classes
pub resolution-recorded : (greatest : ℕ) (h : Plain) (v n : ℕ) → resolution (after_record greatest h v n) ≡ resolution h
unfolding after_record after_add_to_bin with_bins_to
resolution-recorded greatest h v n =
    elim (cases_lt (reach h) v) [
      | inl past ↦ ap (λ (w : Plain). resolution w) (widened-more h v past)
      | inr le ↦ ap (λ (w : Plain). resolution w) (widened-same h v le)
    ]

-- a histogram that was just made
pub IsPlain-empty : (greatest low high sigfig : ℕ) (auto_resize : Bool) → HasScale low sigfig → high < 2 ^ 64 → 2 * low ≤ high → IsPlain greatest (empty_plain low high sigfig auto_resize)
unfolding empty_plain
IsPlain-empty greatest low high sigfig auto_resize scale fits wide = record {
  scale = scale;
  high_fits = fits;
  wide = wide;
  bins = length-replicate (bins_to (resolution_of low sigfig) high) 0;
  numbers_fit = All-replicate (λ n. n ≤ greatest) (bins_to (resolution_of low sigfig) high) 0 (omega arith);
  total_fits = omega arith;
  total_covers = omega (arith, sum_by-replicate (λ x. x) (bins_to (resolution_of low sigfig) high) 0);
  empty = λ e. omega (arith, sum_by-replicate (λ x. x) (bins_to (resolution_of low sigfig) high) 0);
  nothing = λ e. refl;
  top_in_bins = tt;
  lower_in_bins = tt;
  none_above = λ i above. zeros-behind [] (bins_to (resolution_of low sigfig) high) i;
  none_below = λ i below. zeros-behind [] (bins_to (resolution_of low sigfig) high) i;
}

-- blocks up to a value's bucket hold its bins
empty-by : (low high sigfig blocks block : ℕ) (auto_resize : Bool) (numbers : List ℕ) → numbers ≡ replicate (blocks * block) 0 → blocks * block ≡ bins_to (resolution_of low sigfig) high
    → record { low = low; high = high; sigfig = sigfig; auto_resize = auto_resize; counts = numbers; total = 0; top_mark = None; lower_mark = None } ≡ empty_plain low high sigfig auto_resize
unfolding empty_plain
empty-by low high sigfig blocks block auto_resize numbers e n = rw (e, n) refl

-- the blocks up to a value's bucket are its bins
pub blocks-are : (scale g : Resolution) (x blocks block : ℕ) → scale ≡ g → blocks ≡ bucket scale x + 2 → block ≡ 2 ^ (g.digits - 1) → 0 < g.digits → blocks * block ≡ bins_to g x
blocks-are scale g x blocks block same n width m =
    let two : bucket g x + 2 ≡ bucket g x + 1 + 1 = omega arith in
    ap (λ k. blocks * k) width ∙ ap (λ k. k * 2 ^ (g.digits - 1)) (n ∙ ap (λ (s : Resolution). bucket s x + 2) same ∙ two) ∙ sym (bins-blocks g x m)

pub grown-parts : (h : Plain) (x n : ℕ) (counts : List ℕ) → n ≡ bins_to (resolution h) x → counts ≡ h.counts ++ replicate (n - length h.counts) 0
    → record h { high = x; counts = counts } ≡ with_bins_to h x
unfolding with_bins_to
grown-parts h x n counts a b = rw (b, a) refl

pub digits-pos-of : (low sigfig : ℕ) → 0 < (resolution_of low sigfig).digits
unfolding resolution_of
digits-pos-of low sigfig = digits-pos sigfig

-- the bins that are made for the bounds of a histogram
pub record AreMade (low high sigfig : ℕ) (auto_resize : Bool) (counts : Blocks) : Type 0 where
  pub block : counts.block ≡ 2 ^ ((resolution_of low sigfig).digits - 1)
  pub bins : length counts.numbers ≡ bins_to (resolution_of low sigfig) high
  pub empty : record { low = low; high = high; sigfig = sigfig; auto_resize = auto_resize; counts = counts.numbers; total = 0; top_mark = None; lower_mark = None } ≡ empty_plain low high sigfig auto_resize

pub made : (scale : Resolution) (low high sigfig blocks block : ℕ) (auto_resize : Bool) (counts : Blocks) → scale ≡ resolution_of low sigfig → block ≡ 2 ^ (scale.digits - 1)
    → blocks ≡ bucket scale high + 2 → counts ≡ record { block = block; numbers = replicate (blocks * block) 0 } → AreMade low high sigfig auto_resize counts
made scale low high sigfig blocks block auto_resize counts same width number is =
    let wide : block ≡ 2 ^ ((resolution_of low sigfig).digits - 1) = width ∙ ap (λ (s : Resolution). 2 ^ (s.digits - 1)) same in
    let whole = blocks-are scale (resolution_of low sigfig) high blocks block same number wide (digits-pos-of low sigfig) in
    record {
      block = ap (λ (b : Blocks). b.block) is ∙ wide;
      bins = ap (λ (b : Blocks). length b.numbers) is ∙ length-replicate (blocks * block) 0 ∙ whole;
      empty = empty-by low high sigfig blocks block auto_resize counts.numbers (ap (λ (b : Blocks). b.numbers) is) whole;
    }

-- each bin has a lowest value
pub index-inside : (greatest : ℕ) (h : Plain) (i : ℕ) → IsPlain greatest h → i < length h.counts → bin_of (resolution h) (2 ^ 64 - 1) < i → ⊥
unfolding bins_to
index-inside greatest h i p lt past =
    omega (arith, p.bins, bin-mono (resolution h) (reach_of (resolution h) h.high) (2 ^ 64 - 1) (resolution-digits greatest h p) (omega (arith, reach-fits (resolution h) h.high p.high_fits (resolution-fits greatest h p))))

pub bins-pos : (greatest : ℕ) (h : Plain) → IsPlain greatest h → 0 < length h.counts
unfolding bins_to
bins-pos greatest h p = omega (arith, p.bins)
