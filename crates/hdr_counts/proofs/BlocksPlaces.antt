-- The first index that reaches a rank, step by step and part by part.
use Rattle.std.proofs.Common.{◌≡◌, ℕ, ◌+◌, ◌-◌, ◌<◌, ◌≤◌, List, length, get_or, take, drop, map, min, sum, ap, ◌∙◌, arith}
use Rattle.std.proofs.lemmas.List.{length-map, length-take, length-drop}
use Rattle.hdr_counts.specs.Blocks.{sum_below, IsFirstToReach}
use Rattle.hdr_counts.proofs.BlocksSums.{sum_below_map_more, sum_below_all, part_sum}

-- a number that is at least what is left of a rank is at its first index
pub first-here : {X : Type 0} (f : X → ℕ) (xs : List X) (i : ℕ) (x : X) (rank rest : ℕ) → i < length xs → x ≡ get_or xs i x
    → rest + sum_below (map f xs) i ≡ rank → 0 < rest → rest ≤ f x → IsFirstToReach (map f xs) rank i
first-here f xs i x rank rest at is left some enough =
    let more = sum_below_map_more f xs i x at is in
    (rw length-map at, omega arith, omega (arith, more))

-- what a smaller number leaves
pub less-left : {X : Type 0} (f : X → ℕ) (xs : List X) (i : ℕ) (x : X) (rank rest : ℕ) → i < length xs → x ≡ get_or xs i x
    → rest + sum_below (map f xs) i ≡ rank → f x < rest → rest - f x + sum_below (map f xs) (i + 1) ≡ rank
less-left f xs i x rank rest at is left few =
    let more = sum_below_map_more f xs i x at is in
    omega (arith, more)

-- if something is left after the last index, the rank is not reached
pub none-left : {X : Type 0} (f : X → ℕ) (xs : List X) (i rank rest : ℕ) → length xs ≤ i → rest + sum_below (map f xs) i ≡ rank → 0 < rest → sum (map f xs) < rank
none-left f xs i rank rest end left some =
    let len : length (map f xs) ≡ length xs = length-map xs f in
    let whole = sum_below_all (map f xs) i (omega (arith, len)) in
    omega (arith, whole)

-- the first index of a part that reaches what is left is the first index of all that reaches the
-- rank
pub first-in-part : {X : Type 0} (f : X → ℕ) (xs : List X) (a w i rank rest : ℕ) → rest + sum_below (map f xs) a ≡ rank
    → IsFirstToReach (map f (take w (drop a xs))) rest i → IsFirstToReach (map f xs) rank (a + i)
first-in-part f xs a w i rank rest left first =
    let part : length (map f (take w (drop a xs))) ≡ min w (length xs - a) = length-map (take w (drop a xs)) f ∙ length-take w (drop a xs) ∙ ap (λ n. min w n) (length-drop a xs) in
    let len : length (map f xs) ≡ length xs = length-map xs f in
    let here = part_sum f xs a w i (omega (arith, first.0, part)) in
    let next = part_sum f xs a w (i + 1) (omega (arith, first.0, part)) in
    let group : sum_below (map f xs) (a + (i + 1)) ≡ sum_below (map f xs) (a + i + 1) = ap (sum_below (map f xs)) (let e : a + (i + 1) ≡ a + i + 1 = omega arith in e) in
    (omega (arith, first.0, part, len), omega (arith, first.1, here), omega (arith, first.2, next, group))
