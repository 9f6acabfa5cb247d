-- Parts of two lists, of which the numbers are the same or not.
use Rattle.std.proofs.Common.{◌≡◌, ◌≢◌, ℕ, ◌+◌, ◌-◌, ◌<◌, ◌≤◌, List, length, get_or, take, drop, map, sym, ap, ◌∙◌, arith, ⊎_elim}
use Rattle.std.proofs.lemmas.Bool.{cases_lt}
use Rattle.std.proofs.lemmas.List.{take-map, drop-map, get_or-take, get_or-drop, length-take, length-drop}

-- a number of a part
part-at : {X : Type 0} (f : X → ℕ) (xs : List X) (a w j : ℕ) → j < w → get_or (map f (take w (drop a xs))) j 0 ≡ get_or (map f xs) (a + j) 0
part-at f xs a w j lt =
    ap (λ l. get_or l j 0) (sym (take-map f w (drop a xs)) ∙ ap (take w) (sym (drop-map f a xs))) ∙ get_or-take w (drop a (map f xs)) j 0 lt ∙ get_or-drop a (map f xs) j 0

pub front-at : {X : Type 0} (f : X → ℕ) (xs : List X) (w j : ℕ) → j < w → get_or (map f (take w xs)) j 0 ≡ get_or (map f xs) j 0
front-at f xs w j lt = ap (λ l. get_or l j 0) (sym (take-map f w xs)) ∙ get_or-take w (map f xs) j 0 lt

-- one index more
pub same-next : (ns ms : List ℕ) (i : ℕ) → ((k : ℕ) → k < i → get_or ns k 0 ≡ get_or ms k 0) → get_or ns i 0 ≡ get_or ms i 0 → (k : ℕ) → k < i + 1 → get_or ns k 0 ≡ get_or ms k 0
same-next ns ms i before here k lt =
    ⊎_elim
    (λ (x : k < i). before k x)
    (λ (x : i ≤ k).
    let is : k ≡ i = omega arith in
    ap (λ j. get_or ns j 0) is ∙ here ∙ sym (ap (λ j. get_or ms j 0) is))
    (cases_lt k i)

-- one part more
pub part-same : {X Y : Type 0} (f : X → ℕ) (h : Y → ℕ) (xs : List X) (ys : List Y) (a w : ℕ) → ((k : ℕ) → k < a → get_or (map f xs) k 0 ≡ get_or (map h ys) k 0) → a + w ≤ length xs → a ≤ length xs
    → ((j : ℕ) → j < length (take w (drop a xs)) → get_or (map f (take w (drop a xs))) j 0 ≡ get_or (map h (take w (drop a ys))) j 0)
    → (k : ℕ) → k < a + w → get_or (map f xs) k 0 ≡ get_or (map h ys) k 0
part-same f h xs ys a w before room begins part k lt =
    ⊎_elim
    (λ (x : k < a). before k x)
    (λ (x : a ≤ k).
    let is : a + (k - a) ≡ k = omega arith in
    let few : k - a < w = omega arith in
    let inside : k - a < length (take w (drop a xs)) = omega (arith, length-take w (drop a xs), length-drop a xs) in
    sym (ap (λ j. get_or (map f xs) j 0) is) ∙ sym (part-at f xs a w (k - a) few) ∙ part (k - a) inside ∙ part-at h ys a w (k - a) few ∙ ap (λ j. get_or (map h ys) j 0) is)
    (cases_lt k a)

-- an index of a part where the numbers differ
pub part-other : {X Y : Type 0} (f : X → ℕ) (h : Y → ℕ) (xs : List X) (ys : List Y) (a w : ℕ)
    → ((j : ℕ) × (j < length (take w (drop a xs))) × (get_or (map f (take w (drop a xs))) j 0 ≢ get_or (map h (take w (drop a ys))) j 0))
    → (i : ℕ) × (i < length xs) × (get_or (map f xs) i 0 ≢ get_or (map h ys) i 0)
part-other f h xs ys a w (j, lt, differ) =
    let few : j < w = omega (arith, length-take w (drop a xs)) in
    (a + j, omega (arith, length-take w (drop a xs), length-drop a xs), λ e. differ (part-at f xs a w j few ∙ e ∙ sym (part-at h ys a w j few)))
