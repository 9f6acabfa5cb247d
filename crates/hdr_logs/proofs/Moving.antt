-- Intervals that are moved one after the other.
use Rattle.std.proofs.Common.{◌≡◌, Result, Ok, Err, OnOk, ℕ, zero, suc, ◌<◌, ◌+◌, List, [], ◌∷◌, ◌++◌, length, get_or, map, take, drop, refl, sym, ap, subst, ◌∙◌, arith}
use Rattle.std.proofs.Math.ListN.{set}
use Rattle.std.proofs.lemmas.List.{map-set, get_or-map, set-get_or}
use Rattle.std.specs.List.{All}
use Rattle.std.proofs.lemmas.List.Elements.{All-nil, All-cons, All-head, All-tail}
use Rattle.hdr_logs.specs.Stored.{Stored}
use Rattle.hdr_logs.specs.Aligned.{IsFirstStart, BeginAt, LieOver, moved}
use Rattle.hdr_logs.specs.declared.stored.StoredInterval.{StoredInterval}

-- a list of which the items before an index are changed
abbrev pub changed_to : {Y : Type 0} → (Y → Y) → ℕ → List Y → List Y
changed_to m i ys = map m (take i ys) ++ drop i ys

-- one item more is changed
changed_next : {Y : Type 0} (m : Y → Y) (ys : List Y) (i : ℕ) (e : Y) → i < length ys → set (changed_to m i ys) i (m (get_or (changed_to m i ys) i e)) ≡ changed_to m (suc i) ys
changed_next m [] i e l = absurd (omega arith)
changed_next m (y ∷ ys) zero e l = refl
changed_next m (y ∷ ys) (suc i) e l = ap (λ zs. m y ∷ zs) (changed_next m ys i e (omega arith))

-- the values of items of which one more is changed
pub values_next : {X Y : Type 0} (f : X → Y) (m : Y → Y) (old new : List X) (i : ℕ) (d x : X) → i < length old → i < length new → d ≡ get_or new i d → f x ≡ m (f d)
    → map f new ≡ changed_to m i (map f old) → length (map f old) ≡ length old → map f (set new i x) ≡ changed_to m (i + 1) (map f old)
values_next f m old new i d x l k is one so_far many =
    let ys = map f old in
    let next : i + 1 ≡ suc i = omega arith in
    let here : f d ≡ get_or (changed_to m i ys) i (f d) = ap f is ∙ sym (get_or-map f new i d (f d) k) ∙ ap (λ l. get_or l i (f d)) so_far in
    let value : f x ≡ m (get_or (changed_to m i ys) i (f d)) = one ∙ ap m here in
    let within : i < length ys = omega (arith, l, many) in
    map-set f new i x ∙ ap (λ l. set l i (f x)) so_far ∙ ap (λ y. set (changed_to m i ys) i y) value ∙ changed_next m ys i (f d) within ∙ ap (λ n. changed_to m n ys) (sym next)

-- the values of items of which one has the same value as before
pub values_same : {X Y : Type 0} (f : X → Y) (new : List X) (i : ℕ) (d x : X) → i < length new → d ≡ get_or new i d → f x ≡ f d → map f (set new i x) ≡ map f new
values_same f new i d x k is one =
    let here : f x ≡ get_or (map f new) i (f d) = one ∙ ap f is ∙ sym (get_or-map f new i d (f d) k) in
    map-set f new i x ∙ ap (λ y. set (map f new) i y) here ∙ set-get_or (map f new) i (f d)

-- all intervals are moved
pub begin : (from to : ℕ) (old new : List Stored) → IsFirstStart old from → new ≡ map (moved from to) old → BeginAt to old new
begin from to [] new first is = is
begin from to (i ∷ old) new first is = (from, first, is)

-- intervals behind others, with the first of which they begin
laid : (before old new : List Stored) (start : ℕ) → IsFirstStart before start → BeginAt start old new → LieOver before old (before ++ new)
laid [] old new start first begins = absurd (omega (arith, first.0.1))
laid (i ∷ before) old new start first begins = (start, new, first, begins, refl)

pub laid_as : (front back all before old new : List Stored) (start : ℕ) → before ≡ front → old ≡ back → before ++ new ≡ all → IsFirstStart before start → BeginAt start old new → LieOver front back all
laid_as front back all before old new start e f g first begins =
    subst (λ l. LieOver front back l) g (subst (λ l. LieOver front l (before ++ new)) f (subst (λ l. LieOver l old (before ++ new)) e (laid before old new start first begins)))

-- intervals with the same value as others, as their decimals
with_same : {X : Type 0} (f : StoredInterval → X) (d : X) (new rest : List StoredInterval) → map f new ≡ map f rest → All (λ s. f s ≡ d) rest → All (λ s. f s ≡ d) new
with_same f d [] rest e h = All-nil (λ s. f s ≡ d)
with_same f d (x ∷ new) [] e h = cc
with_same f d (x ∷ new) (y ∷ rest) e h =
    let first : f x ≡ f y = cc in
    let others : map f new ≡ map f rest = cc in
    All-cons (λ s. f s ≡ d) x new (first ∙ All-head (λ s. f s ≡ d) y rest h) (with_same f d new rest others (All-tail (λ s. f s ≡ d) y rest h))

-- the same behind others
pub same_behind : {X : Type 0} (f : StoredInterval → X) (d : X) (before rest new : List StoredInterval) → map f new ≡ map f rest → All (λ s. f s ≡ d) (before ++ rest) → All (λ s. f s ≡ d) (before ++ new)
same_behind f d [] rest new same h = with_same f d new rest same h
same_behind f d (b ∷ before) rest new same h =
    All-cons (λ s. f s ≡ d) b (before ++ new) (All-head (λ s. f s ≡ d) b (before ++ rest) h)
    (same_behind f d before rest new same (All-tail (λ s. f s ≡ d) b (before ++ rest) h))

-- what follows from what holds of a successful result
pub on_ok : {A E P Q : Type 0} (r : Result A E) → (P → Q) → OnOk r P → OnOk r Q
on_ok (Ok a) then p = then p
on_ok (Err e) then p = tt
