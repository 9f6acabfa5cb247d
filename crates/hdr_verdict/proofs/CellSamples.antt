-- The samples of cells, added interval by interval and cell by cell.
use Rattle.std.proofs.Common.{◌≡◌, ℕ, zero, suc, ◌+◌, ◌-◌, ◌^◌, ◌<◌, ◌≤◌, Bool, true, false, if◌then◌else◌, ltb, List, [], ◌∷◌, ◌++◌, length, map, take, drop, get_or, sum, min, refl, sym, ap, subst, ◌∙◌, arith, inl, inr, add-one, append_assoc, append-nil, length-append, length-drop}
use Rattle.std.specs.List.{All, take-map, drop-map, flat_map, fold, slice_range, sum_by, range_with_len}
use Rattle.std.proofs.lemmas.Bool.{cases_lt}
use Rattle.std.proofs.lemmas.List.{get_or-map, map-append, length-map, get_or-drop, get_or_past}
use Rattle.std.proofs.lemmas.List.Sums.{sum_by-cons, sum_by_more, sum_by_more_le, sum_by-take-le}
use Rattle.std.proofs.lemmas.List.Concat.{length-flat_map}
use Rattle.std.proofs.lemmas.List.Elements.{All-head, All-tail}
use Rattle.std.proofs.Math.Seq.{take-suc}
use Rattle.hdr_base.specs.Classes.{top_of, unit_of}
use Rattle.hdr_base.proofs.ClassesDigits.{finer-by}
use Rattle.hdr_base.proofs.ClassesLeast.{least_from-passes, least_from-le}
use Rattle.hdr_base.proofs.ClassesLaws.{below_own_power, ltb-from, ltb-to}
use Rattle.hdr_model.specs.Plain.{Plain}
use Rattle.hdr_verdict.specs.declared.width.Width.{Width}
use Rattle.hdr_verdict.specs.declared.cell.Cell.{Cell}
use Rattle.hdr_verdict.proofs.Each.{flat-push}
use Rattle.hdr_verdict.specs.Cells.{AreCounted}
use Rattle.hdr_verdict.specs.Slow.{kept, samples_in}
use Rattle.hdr_verdict.specs.Samples.{Held, IsOf, nothing_held, joined_width, finest, width_of, classes_of, rounded, samples_of_cells, samples_between, Rounds, CanCount}

abbrev pub exact_of : Held → List ℕ
exact_of held = held.samples

-- ---- widths

unit-rises : (low other : ℕ) → low ≤ other → unit_of low ≤ unit_of other
unfolding unit_of
unit-rises low other le =
    let ends : other < 2 ^ (unit_of other + 1) = ltb-to other (2 ^ (unit_of other + 1)) (least_from-passes (λ u. ltb other (2 ^ (u + 1))) other 0 other (omega arith) (omega arith) (ltb-from other (2 ^ (other + 1)) (omega (arith, below_own_power (other + 1))))) in
    least_from-le (λ u. ltb low (2 ^ (u + 1))) low 0 (unit_of other) (omega arith) (ltb-from low (2 ^ (unit_of other + 1)) (omega (arith, ends)))

-- a width has the classes of what was joined to it
abbrev pub Covers : Width → Held → Type 0
Covers width held = (held.low ≤ width.low) × (width.sigfig ≤ held.sigfig)

grows : (width : Width) (all : List Held) → (width.low ≤ (fold joined_width width all).low) × ((fold joined_width width all).sigfig ≤ width.sigfig)
grows width [] = (omega arith, omega arith)
grows width (held ∷ all) =
    let rest = grows (joined_width width held) all in
    let low = rest.0 in
    let sigfig = rest.1 in
    (omega arith, omega arith)

covers-from : (width : Width) (all : List Held) (i : ℕ) → i < length all → Covers (fold joined_width width all) (get_or all i nothing_held)
covers-from width [] i inside = absurd (omega arith)
covers-from width (held ∷ all) zero inside =
    let rest = grows (joined_width width held) all in
    let low = rest.0 in
    let sigfig = rest.1 in
    (omega arith, omega arith)
covers-from width (held ∷ all) (suc i) inside = covers-from (joined_width width held) all i (omega arith)

-- the histogram of an interval stands for its samples, and its classes lie in those of the width
pub held-rounds : (width : Width) (all : List Held) (i : ℕ) (h : Plain) → width ≡ width_of all → i < length all → IsOf (get_or all i nothing_held) h → Rounds width h (rounded width (exact_of (get_or all i nothing_held)))
held-rounds width all i h are inside is =
    let held = get_or all i nothing_held in
    let covers : Covers width held = subst (λ w. Covers w held) (sym are) (covers-from finest all i inside) in
    let low : h.low ≤ width.low = omega (arith, is.low, covers.0) in
    let sigfig : width.sigfig ≤ h.sigfig = omega (arith, is.sigfig, covers.1) in
    record {
      finer = finer-by h.low h.sigfig width.low width.sigfig (unit-rises h.low width.low low) sigfig;
      exact = held.samples;
      stands = is.samples;
      is = refl;
    }

-- ---- the intervals of a cell

slice-more : {X : Type 0} (xs : List X) (a n : ℕ) (d : X) → a ≤ n → n < length xs → slice_range xs a (n + 1) ≡ slice_range xs a n ++ get_or xs n d ∷ []
slice-more xs a n d le inside =
    let count : n + 1 - a ≡ suc (n - a) = omega arith in
    ap (λ k. take k (drop a xs)) count ∙ take-suc (drop a xs) (n - a) d (omega (arith, length-drop a xs)) ∙ ap (λ x. take (n - a) (drop a xs) ++ x ∷ []) (get_or-drop a xs (n - a) d ∙ ap (λ k. get_or xs k d) (let e : a + (n - a) ≡ n = omega arith in e))

-- one more interval of a cell
pub exact-more : (all : List Held) (a n : ℕ) → a ≤ n → n < length all → flat_map exact_of (slice_range all a (n + 1)) ≡ flat_map exact_of (slice_range all a n) ++ exact_of (get_or all n nothing_held)
exact-more all a n le inside = ap (flat_map exact_of) (slice-more all a n nothing_held le inside) ∙ flat-push exact_of (slice_range all a n) (get_or all n nothing_held)

pub rounded-more : (width : Width) (all : List Held) (a n : ℕ) → a ≤ n → n < length all
    → rounded width (flat_map exact_of (slice_range all a n)) ++ rounded width (exact_of (get_or all n nothing_held)) ≡ rounded width (flat_map exact_of (slice_range all a (n + 1)))
rounded-more width all a n le inside =
    sym (map-append (top_of (classes_of width)) (flat_map exact_of (slice_range all a n)) (exact_of (get_or all n nothing_held))) ∙ ap (rounded width) (sym (exact-more all a n le inside))

pub rounded-none : (width : Width) (all : List Held) (a : ℕ) → [] ≡ rounded width (flat_map exact_of (slice_range all a a))
rounded-none width all a = ap (λ k. rounded width (flat_map exact_of (take k (drop a all)))) (let e : 0 ≡ a - a = omega arith in e)

-- a cell of one interval
pub rounded-one : (width : Width) (all : List Held) (a : ℕ) → a < length all → rounded width (exact_of (get_or all a nothing_held)) ≡ rounded width (flat_map exact_of (slice_range all a (a + 1)))
rounded-one width all a inside =
    ap (λ l. l ++ rounded width (exact_of (get_or all a nothing_held))) (rounded-none width all a) ∙ rounded-more width all a a (omega arith) inside

take-of-take : {X : Type 0} (k m : ℕ) (xs : List X) → k ≤ m → take k (take m xs) ≡ take k xs
take-of-take zero m xs le = refl
take-of-take (suc k) zero xs le = absurd (omega arith)
take-of-take (suc k) (suc m) [] le = refl
take-of-take (suc k) (suc m) (x ∷ xs) le = ap (λ l. x ∷ l) (take-of-take k m xs (omega arith))

-- fewer intervals have no more samples
between-rises : (all : List Held) (a n m : ℕ) → n ≤ m → length (samples_between all a n) ≤ length (samples_between all a m)
between-rises all a n m le =
    let f : Held → ℕ = λ held. length held.samples in
    let rest = drop a all in
    let less = sum_by-take-le f (take (m - a) rest) (n - a) in
    let same = ap (sum_by f) (take-of-take (n - a) (m - a) rest (omega arith)) in
    omega (arith, length-flat_map exact_of (take (n - a) rest), length-flat_map exact_of (take (m - a) rest), less, same)

-- the samples up to an interval, and its own, are of those up to the last one
pub few-more : (width : Width) (all : List Held) (a n next : ℕ) → a ≤ n → n < next → next ≤ length all
    → length (rounded width (samples_between all a n)) + length (rounded width (exact_of (get_or all n nothing_held))) ≤ length (samples_between all a next)
few-more width all a n next le lt within =
    let top = top_of (classes_of width) in
    let more = ap length (exact-more all a n le (omega arith)) in
    omega (arith, length-map (samples_between all a n) top, length-map (exact_of (get_or all n nothing_held)) top, more, length-append (samples_between all a n) (exact_of (get_or all n nothing_held)), between-rises all a (n + 1) next (omega arith))

-- the samples of a cell are those of its intervals
pub cell-samples : (all : List Held) (width : Width) (cells : List Cell) (i : ℕ) (cell : Cell) → cell ≡ get_or cells i cell → i < length cells
    → get_or (samples_of_cells all width cells) i [] ≡ rounded width (samples_between all cell.first cell.next)
cell-samples all width cells i cell is inside =
    let f : Cell → List ℕ = λ cell. rounded width (samples_between all cell.first cell.next) in
    get_or-map f cells i cell [] inside ∙ ap f (sym is)

-- the samples of a cell are no more than those of all cells
pub cell-few : (cells : List (List ℕ)) (i : ℕ) → i < length cells → length (get_or cells i []) ≤ sum_by length cells
cell-few cells i inside = omega (arith, sum_by_more_le {X = List ℕ} length cells i [] inside)

pub cell-fits : (all : List Held) (width : Width) (cells : List Cell) (i : ℕ) (cell : Cell) → cell ≡ get_or cells i cell → i < length cells → CanCount (samples_of_cells all width cells)
    → length (samples_between all cell.first cell.next) < 2 ^ 64
cell-fits all width cells i cell is inside fits =
    let f : Cell → List ℕ = λ cell. rounded width (samples_between all cell.first cell.next) in
    let same = ap length (cell-samples all width cells i cell is inside) in
    omega (arith, same, length-map (samples_between all cell.first cell.next) (top_of (classes_of width)), cell-few (samples_of_cells all width cells) i (omega (arith, length-map cells f)), fits)

-- ---- the cells of a run

pub flat-range-suc : (f : ℕ → List ℕ) (a n : ℕ) → flat_map f (range_with_len a (suc n)) ≡ flat_map f (range_with_len a n) ++ f (a + n)
flat-range-suc f a zero = append-nil (f a) ∙ ap f (let e : a ≡ a + 0 = omega arith in e)
flat-range-suc f a (suc n) =
    ap (λ l. f a ++ l) (flat-range-suc f (a + 1) n) ∙ sym (append_assoc (f a) (flat_map f (range_with_len (a + 1) n)) (f (a + 1 + n))) ∙ ap (λ k. flat_map f (range_with_len a (suc n)) ++ f k) (let e : a + 1 + n ≡ a + suc n = omega arith in e)

flat-range-more : (f : ℕ → List ℕ) (a n : ℕ) → flat_map f (range_with_len a (n + 1)) ≡ flat_map f (range_with_len a n) ++ f (a + n)
flat-range-more f a n = ap (λ k. flat_map f (range_with_len a k)) (add-one n) ∙ flat-range-suc f a n

-- one more cell of a run
pub kept-more : (cells : List (List ℕ)) (left : List Bool) (start n : ℕ) → start ≤ n
    → samples_in cells left (record { start = start; end = n }) ++ kept cells left n ≡ samples_in cells left (record { start = start; end = n + 1 })
kept-more cells left start n le =
    let f = kept cells left in
    sym (ap (λ k. flat_map f (range_with_len start k)) (let e : n + 1 - start ≡ n - start + 1 = omega arith in e) ∙ flat-range-more f start (n - start) ∙ ap (λ k. samples_in cells left (record { start = start; end = n }) ++ f k) (let e : start + (n - start) ≡ n = omega arith in e))

one-kept : (left : Bool) (cell : List ℕ) → length (if left then [] else cell) ≤ length cell
one-kept true cell = omega arith
one-kept false cell = omega arith

kept-range : (cells : List (List ℕ)) (left : List Bool) (start n : ℕ) → start + n ≤ length cells → length (flat_map (kept cells left) (range_with_len start n)) ≤ sum_by length (take (start + n) cells)
kept-range cells left start zero within = omega arith
kept-range cells left start (suc n) within =
    let f = kept cells left in
    let before = kept-range cells left start n (omega arith) in
    let more = ap length (flat-range-suc f start n) in
    let one = one-kept (get_or left (start + n) false) (get_or cells (start + n) []) in
    let next = sum_by_more {X = List ℕ} length cells (start + n) [] (omega arith) in
    let same = ap (λ k. sum_by length (take k cells)) (let e : start + n + 1 ≡ start + suc n = omega arith in e) in
    omega (arith, before, more, length-append (flat_map f (range_with_len start n)) (f (start + n)), one, next, same)

-- the cells of a run up to one, and that one, have no more samples than all cells
pub kept-few : (cells : List (List ℕ)) (left : List Bool) (start n : ℕ) → start ≤ n → n < length cells
    → length (samples_in cells left (record { start = start; end = n })) + length (kept cells left n) ≤ sum_by length cells
kept-few cells left start n le inside =
    let f = kept cells left in
    let before = kept-range cells left start (n - start) (omega arith) in
    let same = ap (λ k. sum_by length (take k cells)) (let e : start + (n - start) ≡ n = omega arith in e) in
    let one = one-kept (get_or left n false) (get_or cells n []) in
    let next = sum_by_more_le {X = List ℕ} length cells n [] inside in
    omega (arith, before, same, one, next)

-- ---- counts

pub sum-map : {X : Type 0} (f : X → ℕ) (xs : List X) → sum (map f xs) ≡ sum_by f xs
sum-map f [] = refl
sum-map f (x ∷ xs) = sum_by-cons (λ n. n) (f x) (map f xs) ∙ ap (λ n. f x + n) (sum-map f xs) ∙ sym (sum_by-cons f x xs)

count-between : (all : List Held) (a b : ℕ) → sum (slice_range (map (λ (held : Held). length held.samples) all) a b) ≡ length (samples_between all a b)
count-between all a b =
    let f : Held → ℕ = λ held. length held.samples in
    ap (λ l. sum (take (b - a) l)) (drop-map f a all) ∙ ap sum (take-map f (b - a) (drop a all)) ∙ sum-map f (slice_range all a b) ∙ sym (length-flat_map exact_of (slice_range all a b))

map-same : (f g : Cell → ℕ) (cells : List Cell) → All (λ cell. f cell ≡ g cell) cells → map f cells ≡ map g cells
map-same f g [] all = refl
map-same f g (cell ∷ cells) all = ap (λ n. n ∷ map f cells) (All-head (λ cell. f cell ≡ g cell) cell cells all) ∙ ap (λ l. g cell ∷ l) (map-same f g cells (All-tail (λ cell. f cell ≡ g cell) cell cells all))

map-map : (f : Cell → List ℕ) (cells : List Cell) → map length (map f cells) ≡ map (λ cell. length (f cell)) cells
map-map f [] = refl
map-map f (cell ∷ cells) = ap (λ l. length (f cell) ∷ l) (map-map f cells)

-- the cells have as many samples as they count
pub cells-counted : (all : List Held) (width : Width) (counts : List ℕ) (cells : List Cell) → counts ≡ map (λ (held : Held). length held.samples) all → AreCounted counts cells
    → CanCount (samples_of_cells all width cells) → map (λ (cell : Cell). cell.samples) cells ≡ map length (samples_of_cells all width cells)
cells-counted all width counts cells are counted fits =
    let f : Cell → List ℕ = λ cell. rounded width (samples_between all cell.first cell.next) in
    let here : All (λ (cell : Cell). cell.samples ≡ length (f cell)) cells = λ k d inside.
    let cell = get_or cells k d in
    let samples = samples_between all cell.first cell.next in
    let many = ap (λ l. sum (slice_range l cell.first cell.next)) are ∙ count-between all cell.first cell.next in
    let same : get_or (map f cells) k [] ≡ f cell = get_or-map f cells k d [] inside in
    let few = cell-few (map f cells) k (omega (arith, inside, length-map cells f)) in
    let length-same = ap length same in
    omega (arith, counted k d inside, many, length-map samples (top_of (classes_of width)), length-same, few, fits) in
    map-same (λ (cell : Cell). cell.samples) (λ cell. length (f cell)) cells here ∙ sym (map-map f cells)

-- ---- cells past the last one

none-kept : (left : Bool) (cell : List ℕ) → cell ≡ [] → (if left then [] else cell) ≡ []
none-kept true cell none = refl
none-kept false cell none = none

kept-past : (cells : List (List ℕ)) (left : List Bool) (i : ℕ) → length cells ≤ i → kept cells left i ≡ []
kept-past cells left i past = none-kept (get_or left i false) (get_or cells i []) (get_or_past cells i [] past)

flat-range-past : (f : ℕ → List ℕ) (a m more : ℕ) → ((i : ℕ) → a + m ≤ i → i < a + (m + more) → f i ≡ []) → flat_map f (range_with_len a (m + more)) ≡ flat_map f (range_with_len a m)
flat-range-past f a m zero none = ap (λ k. flat_map f (range_with_len a k)) (let e : m + zero ≡ m = omega arith in e)
flat-range-past f a m (suc more) none =
    let n = m + more in
    ap (λ k. flat_map f (range_with_len a k)) (let e : m + suc more ≡ suc n = omega arith in e) ∙ flat-range-suc f a n
    ∙ ap (λ l. flat_map f (range_with_len a n) ++ l) (none (a + n) (omega arith) (omega arith)) ∙ append-nil (flat_map f (range_with_len a n))
    ∙ flat-range-past f a m more (λ i from to. none i from (omega arith))

past-end : (cells : List (List ℕ)) (left : List Bool) (start m n : ℕ) → m ≤ n → ((i : ℕ) → start + m ≤ i → i < start + n → kept cells left i ≡ [])
    → flat_map (kept cells left) (range_with_len start m) ≡ flat_map (kept cells left) (range_with_len start n)
past-end cells left start m n le none =
    let f = kept cells left in
    let whole : m + (n - m) ≡ n = omega arith in
    sym (flat-range-past f start m (n - m) (λ i a b. none i a (omega arith))) ∙ ap (λ k. flat_map f (range_with_len start k)) whole

-- a run up to a cell has the samples of the run if no cells are left
pub run-ends : (cells : List (List ℕ)) (left : List Bool) (start end index : ℕ) → start ≤ index → (min end (length cells) ≤ start → index ≡ start) → (start < min end (length cells) → index ≡ min end (length cells))
    → samples_in cells left (record { start = start; end = index }) ≡ samples_in cells left (record { start = start; end = end })
run-ends cells left start end index from none to =
    let f = kept cells left in
    let m = index - start in
    let n = end - start in
    elim (cases_lt start (min end (length cells))) [
      | inl lt ↦ (let at = to lt in past-end cells left start m n (omega (arith, at)) (λ i a b. kept-past cells left i (omega (arith, at))))
      | inr ge ↦ (let at = none ge in past-end cells left start m n (omega (arith, at)) (λ i a b. kept-past cells left i (omega (arith, at))))
    ]
