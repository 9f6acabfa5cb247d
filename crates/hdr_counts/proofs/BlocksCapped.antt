-- Two lists added element by element, each sum at most the greatest.
use Rattle.std.proofs.Common.{add-one, ◌≡◌, ℕ, zero, suc, ◌+◌, ◌*◌, ◌<◌, ◌≤◌, min, List, [], ◌∷◌, ◌++◌, length, get_or, set, take, drop, map, sum, refl, sym, ap, ◌∙◌, arith}
use Rattle.std.proofs.lemmas.List.{map-append, take-map, drop-map, drop-drop, length-map}
use Rattle.std.specs.List.{All}
use Rattle.std.proofs.lemmas.List.Sums.{sum_by-cons}
use Rattle.std.proofs.lemmas.List.Elements.{All-cons, All-tail, All-head}
use Rattle.hdr_counts.specs.Blocks.{capped_sums}

pub capped-none : (greatest : ℕ) (ms : List ℕ) → capped_sums greatest ms [] ≡ ms
capped-none greatest [] = refl
capped-none greatest (m ∷ ms) = refl

-- before the first block nothing is added
pub capped-begin : (greatest b : ℕ) (ms ns : List ℕ) → ms ≡ capped_sums greatest ms (take (0 * b) ns)
capped-begin greatest b ms ns =
    let none : 0 * b ≡ 0 = omega arith in
    sym (ap (λ n. capped_sums greatest ms (take n ns)) none ∙ capped-none greatest ms)

pub capped-more : (greatest : ℕ) (ms ns : List ℕ) (i : ℕ) → i < length ms → i < length ns
    → capped_sums greatest ms (take (suc i) ns) ≡ set (capped_sums greatest ms (take i ns)) i (min (get_or (capped_sums greatest ms (take i ns)) i 0 + get_or ns i 0) greatest)
capped-more greatest [] ns i a b = absurd (omega arith)
capped-more greatest (m ∷ ms) [] i a b = absurd (omega arith)
capped-more greatest (m ∷ ms) (n ∷ ns) zero a b = ap (λ xs. min (m + n) greatest ∷ xs) (capped-none greatest ms)
capped-more greatest (m ∷ ms) (n ∷ ns) (suc i) a b = ap (λ xs. min (m + n) greatest ∷ xs) (capped-more greatest ms ns i (omega arith) (omega arith))

pub capped-length : (greatest : ℕ) (ms ns : List ℕ) → length (capped_sums greatest ms ns) ≡ length ms
capped-length greatest [] ns = refl
capped-length greatest (m ∷ ms) [] = refl
capped-length greatest (m ∷ ms) (n ∷ ns) = ap suc (capped-length greatest ms ns)

pub capped-get : (greatest : ℕ) (ms ns : List ℕ) (i : ℕ) → length ms ≡ length ns → get_or (capped_sums greatest ms ns) i 0 ≡ min (get_or ms i 0 + get_or ns i 0) greatest
capped-get greatest [] [] i e = omega arith
capped-get greatest [] (n ∷ ns) i e = absurd (omega arith)
capped-get greatest (m ∷ ms) [] i e = absurd (omega arith)
capped-get greatest (m ∷ ms) (n ∷ ns) zero e = refl
capped-get greatest (m ∷ ms) (n ∷ ns) (suc i) e = capped-get greatest ms ns i (omega arith)

pub capped-fit : (greatest : ℕ) (ms ns : List ℕ) → All (λ n. n ≤ greatest) ms → All (λ n. n ≤ greatest) (capped_sums greatest ms ns)
capped-fit greatest [] ns a = a
capped-fit greatest (m ∷ ms) [] a = a
capped-fit greatest (m ∷ ms) (n ∷ ns) a =
    All-cons (λ n. n ≤ greatest) (min (m + n) greatest) (capped_sums greatest ms ns) (omega arith) (capped-fit greatest ms ns (All-tail (λ n. n ≤ greatest) m ms a))

pub capped-sum : (greatest : ℕ) (ms ns : List ℕ) → sum (capped_sums greatest ms ns) ≤ sum ms + sum ns
capped-sum greatest [] ns = omega arith
capped-sum greatest (m ∷ ms) [] = omega arith
capped-sum greatest (m ∷ ms) (n ∷ ns) = omega (arith, capped-sum greatest ms ns, sum_by-cons (λ x. x) m ms, sum_by-cons (λ x. x) n ns, sum_by-cons (λ x. x) (min (m + n) greatest) (capped_sums greatest ms ns))

pub capped-nothing : (greatest : ℕ) (ms ns : List ℕ) → 1 ≤ greatest → length ms ≡ length ns → sum (capped_sums greatest ms ns) ≡ 0 → sum ms + sum ns ≡ 0
capped-nothing greatest [] [] one same e = refl
capped-nothing greatest [] (n ∷ ns) one same e = absurd (omega arith)
capped-nothing greatest (m ∷ ms) [] one same e = absurd (omega arith)
capped-nothing greatest (m ∷ ms) (n ∷ ns) one same e =
    let c = sum_by-cons (λ x. x) (min (m + n) greatest) (capped_sums greatest ms ns) in
    let rest : sum (capped_sums greatest ms ns) ≡ 0 = omega (arith, c) in
    let first : min (m + n) greatest ≡ 0 = omega (arith, c) in
    omega (arith, capped-nothing greatest ms ns one (omega arith) rest, first, sum_by-cons (λ x. x) m ms, sum_by-cons (λ x. x) n ns)

pub capped-next : (greatest : ℕ) (ms ns : List ℕ) (i : ℕ) → i < length ms → i < length ns
    → set (capped_sums greatest ms (take i ns)) i (min (get_or (capped_sums greatest ms (take i ns)) i 0 + get_or ns i 0) greatest) ≡ capped_sums greatest ms (take (i + 1) ns)
capped-next greatest ms ns i a b = rw add-one (sym (capped-more greatest ms ns i a b))

-- numbers past the end of the first list count for nothing
pub capped-all : (greatest : ℕ) (ms ns : List ℕ) (i : ℕ) → length ms ≤ i → capped_sums greatest ms (take i ns) ≡ capped_sums greatest ms ns
capped-all greatest [] ns i le = refl
capped-all greatest (m ∷ ms) [] zero le = refl
capped-all greatest (m ∷ ms) [] (suc i) le = refl
capped-all greatest (m ∷ ms) (n ∷ ns) zero le = absurd (omega arith)
capped-all greatest (m ∷ ms) (n ∷ ns) (suc i) le = ap (λ xs. min (m + n) greatest ∷ xs) (capped-all greatest ms ns i (omega arith))

-- a prefix of both lists, and what follows it
capped-front : (greatest : ℕ) (b : ℕ) (ms ns : List ℕ) → capped_sums greatest (take b ms) (take b ns) ++ drop b ms ≡ capped_sums greatest ms (take b ns)
capped-front greatest zero ms ns = sym (capped-none greatest ms)
capped-front greatest (suc b) [] ns = refl
capped-front greatest (suc b) (m ∷ ms) [] = ap (λ xs. m ∷ xs) (front b ms)
  where
    front : (b : ℕ) (ms : List ℕ) → take b ms ++ drop b ms ≡ ms
    front zero ms = refl
    front (suc b) [] = refl
    front (suc b) (m ∷ ms) = ap (λ xs. m ∷ xs) (front b ms)
capped-front greatest (suc b) (m ∷ ms) (n ∷ ns) = ap (λ xs. min (m + n) greatest ∷ xs) (capped-front greatest b ms ns)

-- one block more
pub capped-block : (greatest : ℕ) (a b e : ℕ) (ms ns : List ℕ) → e ≡ a + b → a ≤ length ms → a ≤ length ns
    → let xs = capped_sums greatest ms (take a ns) in
    take a xs ++ (capped_sums greatest (take b (drop a xs)) (take b (drop a ns)) ++ drop e xs) ≡ capped_sums greatest ms (take e ns)
capped-block greatest zero b e ms ns is le same =
    let here : e ≡ b = omega arith in
    rw (here, capped-none greatest ms) (capped-front greatest b ms ns)
capped-block greatest (suc a) b e [] ns is le same = absurd (omega arith)
capped-block greatest (suc a) b e (m ∷ ms) [] is le same = absurd (omega arith)
capped-block greatest (suc a) b zero (m ∷ ms) (n ∷ ns) is le same = absurd (omega arith)
capped-block greatest (suc a) b (suc e) (m ∷ ms) (n ∷ ns) is le same =
    ap (λ xs. min (m + n) greatest ∷ xs) (capped-block greatest a b e ms ns (omega arith) (omega arith) (omega arith))

-- numbers past the end of the first list add nothing
pub capped-cut : (greatest : ℕ) (a : ℕ) (ms ns : List ℕ) → length ms ≤ a → capped_sums greatest ms (take a ns) ≡ capped_sums greatest ms ns
capped-cut greatest a [] ns le = refl
capped-cut greatest zero (m ∷ ms) ns le = absurd (omega arith)
capped-cut greatest (suc a) (m ∷ ms) [] le = refl
capped-cut greatest (suc a) (m ∷ ms) (n ∷ ns) le = ap (λ xs. min (m + n) greatest ∷ xs) (capped-cut greatest a ms ns (omega arith))

-- if both lists together are at most the greatest, no sum saturates
pub capped-free : (greatest : ℕ) (ms ns : List ℕ) → length ms ≡ length ns → sum ms + sum ns ≤ greatest → sum (capped_sums greatest ms ns) ≡ sum ms + sum ns
capped-free greatest [] [] same le = refl
capped-free greatest [] (n ∷ ns) same le = absurd (omega arith)
capped-free greatest (m ∷ ms) [] same le = absurd (omega arith)
capped-free greatest (m ∷ ms) (n ∷ ns) same le =
    let a = sum_by-cons (λ x. x) m ms in
    let b = sum_by-cons (λ x. x) n ns in
    let c = sum_by-cons (λ x. x) (min (m + n) greatest) (capped_sums greatest ms ns) in
    omega (arith, a, b, c, capped-free greatest ms ns (omega arith) (omega arith))

-- one index more, in a list that was added up to there
pub capped-write : (greatest : ℕ) (ms ns was : List ℕ) (i x : ℕ) → was ≡ capped_sums greatest ms (take i ns) → i < length ms → i < length ns → x ≡ min (get_or was i 0 + get_or ns i 0) greatest
    → set was i x ≡ capped_sums greatest ms (take (i + 1) ns)
capped-write greatest ms ns was i x before a b is =
    ap (λ y. set was i y) is ∙ ap (λ ws. set ws i (min (get_or ws i 0 + get_or ns i 0) greatest)) before ∙ capped-next greatest ms ns i a b

-- an index that was not added to yet
pub capped-rest : (greatest : ℕ) (ms ns : List ℕ) (i : ℕ) → get_or (capped_sums greatest ms (take i ns)) i 0 ≡ get_or ms i 0
capped-rest greatest [] ns i = refl
capped-rest greatest (m ∷ ms) ns zero = refl
capped-rest greatest (m ∷ ms) [] (suc i) = refl
capped-rest greatest (m ∷ ms) (n ∷ ns) (suc i) = capped-rest greatest ms ns i

-- if the second list is zeros, nothing is added
pub capped-zeros : (greatest : ℕ) (ms ns : List ℕ) → All (λ n. n ≤ greatest) ms → sum ns ≡ 0 → capped_sums greatest ms ns ≡ ms
capped-zeros greatest [] ns fit none = refl
capped-zeros greatest (m ∷ ms) [] fit none = refl
capped-zeros greatest (m ∷ ms) (n ∷ ns) fit none =
    let b = sum_by-cons (λ x. x) n ns in
    let first : m ≤ greatest = All-head (λ n. n ≤ greatest) m ms fit in
    let zero_here : min (m + n) greatest ≡ m = omega (arith, b) in
    ap (λ x. x ∷ capped_sums greatest ms ns) zero_here
    ∙ ap (λ xs. m ∷ xs) (capped-zeros greatest ms ns (All-tail (λ n. n ≤ greatest) m ms fit) (omega (arith, b)))

-- a bound of the first list that the greatest does not pass
pub capped-fit-under : (greatest most : ℕ) (ms ns : List ℕ) → greatest ≤ most → All (λ n. n ≤ most) ms → All (λ n. n ≤ most) (capped_sums greatest ms ns)
capped-fit-under greatest most [] ns le a = a
capped-fit-under greatest most (m ∷ ms) [] le a = a
capped-fit-under greatest most (m ∷ ms) (n ∷ ns) le a =
    All-cons (λ n. n ≤ most) (min (m + n) greatest) (capped_sums greatest ms ns) (omega arith) (capped-fit-under greatest most ms ns le (All-tail (λ n. n ≤ most) m ms a))

-- a part of a list written anew, by its numbers
pub map-part : {X : Type 0} (f : X → ℕ) (xs part : List X) (a e : ℕ) → map f (take a xs ++ (part ++ drop e xs)) ≡ take a (map f xs) ++ (map f part ++ drop e (map f xs))
map-part f xs part a e =
    map-append f (take a xs) (part ++ drop e xs)
    ∙ ap (λ l. map f (take a xs) ++ l) (map-append f part (drop e xs))
    ∙ ap (λ l. l ++ (map f part ++ map f (drop e xs))) (sym (take-map f a xs))
    ∙ ap (λ l. take a (map f xs) ++ (map f part ++ l)) (sym (drop-map f e xs))

pub map-middle : {X : Type 0} (f : X → ℕ) (xs : List X) (a w : ℕ) → map f (take w (drop a xs)) ≡ take w (drop a (map f xs))
map-middle f xs a w = sym (take-map f w (drop a xs)) ∙ ap (take w) (sym (drop-map f a xs))

-- one block more was added
pub capped-step : {X Y : Type 0} (f : X → ℕ) (h : Y → ℕ) (xs part : List X) (ys : List Y) (greatest a w b e : ℕ) (ms : List ℕ)
    → w ≡ b → e ≡ a + b → a ≤ length ms → a ≤ length ys → map f xs ≡ capped_sums greatest ms (take a (map h ys))
    → map f part ≡ capped_sums greatest (map f (take w (drop a xs))) (map h (take w (drop a ys)))
    → map f (take a xs ++ (part ++ drop w (drop a xs))) ≡ capped_sums greatest ms (take e (map h ys))
capped-step f h xs part ys greatest a w b e ms wide end room same before added =
    let now = capped_sums greatest ms (take a (map h ys)) in
    let new : map f part ≡ capped_sums greatest (take b (drop a now)) (take b (drop a (map h ys))) =
    added ∙ ap (λ l. capped_sums greatest l (map h (take w (drop a ys)))) (map-middle f xs a w) ∙ ap (λ l. capped_sums greatest (take w (drop a (map f xs))) l) (map-middle h ys a w)
    ∙ ap (λ n. capped_sums greatest (take n (drop a (map f xs))) (take n (drop a (map h ys)))) wide ∙ ap (λ l. capped_sums greatest (take b (drop a l)) (take b (drop a (map h ys)))) before in
    let at : a + w ≡ e = omega arith in
    ap (λ l. map f (take a xs ++ (part ++ l))) (drop-drop w a xs) ∙ map-part f xs part a (a + w) ∙ ap (λ n. take a (map f xs) ++ (map f part ++ drop n (map f xs))) at
    ∙ ap (λ l. take a l ++ (map f part ++ drop e l)) before ∙ ap (λ l. take a now ++ (l ++ drop e now)) new
    ∙ capped-block greatest a b e ms (map h ys) end room (omega (arith, same, length-map ys h))
