-- Groups of sorted intervals, and their lines.
use Rattle.std.proofs.Common.{◌≡◌, ◌≢◌, ℕ, zero, suc, ◌≤◌, ◌<◌, ◌+◌, List, [], ◌∷◌, ◌++◌, Option, Some, None, Bool, false, take, drop, length, get_or, map, refl, sym, ap, subst, ◌∙◌, append_assoc, arith}
use Rattle.std.specs.List.{All, AllWithin, AllPairs, HoldsAt, flat_map}
use Rattle.std.specs.Ordering.{is_lt}
use Rattle.std.proofs.Math.Seq.{take-suc, take-add}
use Rattle.std.proofs.lemmas.List.{append-nil, take_all, length-drop, length-map, get_or-drop, get_or-map}
use Rattle.std.proofs.lemmas.List.Concat.{flat_map-append}
use Rattle.std.proofs.lemmas.List.Elements.{All-nil, All-cons, All-head, All-tail, All-append, All-weaker, at_read}
use Rattle.std.proofs.lemmas.List.Kept.{AllPairs-cons}
use Rattle.std.proofs.lemmas.List.Sorted.{sorted_far, ranks_by}
use Rattle.std.specs.Io.KnownBytes.{Appends}
use Rattle.hdr_logs.specs.Stored.{Stored}
use Rattle.hdr_gather.specs.Keys.{key_of, key_cmp, IsBefore, AreSorted}
use Rattle.hdr_gather.specs.Logs.{AreInOrder, AreLinesOf, WritesLine, Writes}
use Rattle.hdr_logs.proofs.Parts.{all_behind}
use Rattle.hdr_gather.proofs.Keys.{key_total, less_past, before_earlier}

abbrev pub members : List (Stored × List Stored) → List Stored
members gs = flat_map (λ g. g.0 ∷ g.1) gs

lines_append : (gs hs : List (Stored × List Stored)) (a b : ℕ) (s t : List ℕ) → AreLinesOf gs a s → AreLinesOf hs b t → AreLinesOf (gs ++ hs) (a + b) (s ++ t)
unfolding AreLinesOf
lines_append [] hs a b s t none l =
    let same : b ≡ a + b = omega (arith, none.0) in
    subst (λ x. AreLinesOf hs (a + b) (x ++ t)) (sym none.1) (subst (λ n. AreLinesOf hs n t) same l)
lines_append (g ∷ gs) hs a b s t m l =
    let all : a + b ≡ m.2 + (m.3 + b) = omega (arith, m.5) in
    (m.0, m.1 ++ t, m.2, m.3 + b, ap (λ x. x ++ t) m.4 ∙ append_assoc m.0 m.1 t, all, m.6, m.7, lines_append gs hs m.3 b m.1 t m.8 l)

appends_both : (o m n : Option (List ℕ)) (xs ys : List ℕ) → Appends o m xs → Appends m n ys → Appends o n (xs ++ ys)
appends_both None m n xs ys p q = tt
appends_both (Some o) None n xs ys p q = absurd p
appends_both (Some o) (Some m) None xs ys p q = absurd q
appends_both (Some o) (Some m) (Some n) xs ys p q = q ∙ ap (λ t. t ++ ys) p ∙ append_assoc o xs ys

appends_nothing : (o : Option (List ℕ)) → Appends o o []
appends_nothing None = tt
appends_nothing (Some xs) = sym (append-nil xs)

-- groups in order, and others after them
module _ {X : Type 0} (R : X → X → Type 0) where
  pairs_append : (xs ys : List X) → AllPairs R xs → AllPairs R ys → All (λ x. All (R x) ys) xs → AllPairs R (xs ++ ys)
  pairs_append [] ys p q cross = q
  pairs_append (x ∷ xs) ys p q cross =
      let first : All (R x) xs = λ k d l. p 0 (suc k) d (omega arith) (omega (arith, l)) in
      let rest : AllPairs R xs = λ i j d l m. p (suc i) (suc j) d (omega (arith, l)) (omega (arith, m)) in
      AllPairs-cons R x (xs ++ ys) (All-append (R x) xs ys first (All-head (λ x. All (R x) ys) x xs cross)) (pairs_append xs ys rest q (All-tail (λ x. All (R x) ys) x xs cross))

-- the first intervals of groups
firsts : (P : Stored → Type 0) (gs : List (Stored × List Stored)) → All P (members gs) → All (λ g. P g.0) gs
firsts P [] h = All-nil (λ g. P g.0)
firsts P (g ∷ gs) h =
    All-cons (λ g. P g.0) g gs (All-head P g.0 (g.1 ++ members gs) h) (firsts P gs (all_behind P (g.0 ∷ g.1) (members gs) h))

pub writes_none : (o : Option (List ℕ)) → Writes [] 0 o o
unfolding AreLinesOf
writes_none o = ([], [], refl, λ i j d l m. absurd (omega (arith, m)), (refl, refl), appends_nothing o)

-- intervals after others that all begin earlier
pub writes_both : (ps qs : List Stored) (a b : ℕ) (o m n : Option (List ℕ)) (low : ℕ) → All (λ p. p.start < low) ps → All (λ q. low ≤ q.start) qs → Writes ps a o m → Writes qs b m n
    → Writes (ps ++ qs) (a + b) o n
writes_both ps qs a b o m n low below above s t =
    let all : members (s.0 ++ t.0) ≡ ps ++ qs = flat_map-append (λ g. g.0 ∷ g.1) s.0 t.0 ∙ ap (λ r. r ++ members t.0) s.2 ∙ ap (λ r. ps ++ r) t.2 in
    let early : All (λ g. g.0.start < low) s.0 = firsts (λ p. p.start < low) s.0 (subst (All (λ p. p.start < low)) (sym s.2) below) in
    let late : All (λ h. low ≤ h.0.start) t.0 = firsts (λ q. low ≤ q.start) t.0 (subst (All (λ q. low ≤ q.start)) (sym t.2) above) in
    let cross : All (λ g. All (λ h. IsBefore g.0 h.0) t.0) s.0 =
    All-weaker (λ g. g.0.start < low) (λ g. All (λ h. IsBefore g.0 h.0) t.0) (λ g l. All-weaker (λ h. low ≤ h.0.start) (λ h. IsBefore g.0 h.0) (λ h m. before_earlier g.0 h.0 (omega (arith, l, m))) t.0 late) s.0 early in
    (s.0 ++ t.0, s.1 ++ t.1, all, pairs_append (λ g h. IsBefore g.0 h.0) s.0 t.0 s.3 t.3 cross, lines_append s.0 t.0 a b s.1 t.1 s.4 t.4, appends_both o m n s.1 t.1 s.5 t.5)

-- the intervals of a list up to an index are written, and their groups are before the rest of it
abbrev pub WritesUpTo : List Stored → ℕ → ℕ → Option (List ℕ) → Option (List ℕ) → Type 0
WritesUpTo ps i finer old new =
    (groups : List (Stored × List Stored)) × (text : List ℕ) × (members groups ≡ take i ps) × AreInOrder groups × AreLinesOf groups finer text × Appends old new text
    × ((j : ℕ) (d : Stored) → i ≤ j → j < length ps → All (λ g. IsBefore g.0 (get_or ps j d)) groups)

pub writes_start : (ps : List Stored) (o : Option (List ℕ)) → WritesUpTo ps 0 0 o o
unfolding AreLinesOf
writes_start ps o = ([], [], refl, λ i j d l m. absurd (omega (arith, m)), (refl, refl), appends_nothing o, λ j d l m. All-nil (λ g. IsBefore g.0 (get_or ps j d)))

within_take : (P : Stored → Type 0) (xs : List Stored) (n : ℕ) → n ≤ length xs → AllWithin P xs 0 n → All P (take n xs)
within_take P xs zero l h = All-nil P
within_take P [] (suc n) l h = absurd (omega (arith, l))
within_take P (x ∷ xs) (suc n) l h =
    All-cons P x (take n xs) (h 0 x (omega arith) (omega arith)) (within_take P xs n (omega (arith, l)) (λ k d a b. h (suc k) d (omega arith) (omega (arith, b))))

module _ (ps : List Stored) (i len : ℕ) (d : Stored) (at : i < length ps) (found : d ≡ get_or ps i d) where
  -- an interval comes before those after all of its key
  before_rest : AreSorted ps → (len < length (drop (i + 1) ps) → HoldsAt (λ p. key_of p ≢ key_of d) (drop (i + 1) ps) len) → (j : ℕ) (e : Stored) → i + 1 + len ≤ j → j < length ps → IsBefore d (get_or ps j e)
  before_rest sorted next j e l m =
      let lt : Stored → Stored → Bool = λ x y. is_lt (key_cmp (key_of x) (key_of y)) in
      let here : get_or ps i e ≡ d = at_read ps (λ p. p ≡ d) i d at found refl e in
      let more : len < length (drop (i + 1) ps) = omega (arith, l, m, length-drop (i + 1) ps) in
      let low : lt (get_or ps (i + 1 + len) e) d ≡ false = subst (λ x. lt (get_or ps (i + 1 + len) e) x ≡ false) here (sorted_far lt (ranks_by key_total key_of) ps sorted i (i + 1 + len) e (omega arith) (omega (arith, l, m))) in
      let high : lt (get_or ps j e) (get_or ps (i + 1 + len) e) ≡ false = sorted_far lt (ranks_by key_total key_of) ps sorted (i + 1 + len) j e l m in
      let other : key_of (get_or ps (i + 1 + len) e) ≢ key_of d = subst (λ x. key_of x ≢ key_of d) (get_or-drop (i + 1) ps len e) (next more e) in
      less_past (key_of d) (key_of (get_or ps (i + 1 + len) e)) (key_of (get_or ps j e)) low high other

  -- the line of an interval and of all of its key after it
  pub writes_more : (a b : ℕ) (o m n : Option (List ℕ)) (others : List Stored) → others ≡ take len (drop (i + 1) ps) → AreSorted ps → len ≤ length (drop (i + 1) ps)
      → AllWithin (λ p. key_of p ≡ key_of d) (drop (i + 1) ps) 0 len → (len < length (drop (i + 1) ps) → HoldsAt (λ p. key_of p ≢ key_of d) (drop (i + 1) ps) len)
      → WritesUpTo ps i a o m → WritesLine d others b m n → WritesUpTo ps (i + 1 + len) (a + b) o n
  unfolding AreLinesOf
  writes_more a b o m n others is sorted fits same next s l =
      let g : Stored × List Stored = (d, others) in
      let after : i + 1 ≡ suc i = omega arith in
      let one : take (i + 1) ps ≡ take i ps ++ d ∷ [] = ap (λ k. take k ps) after ∙ take-suc ps i d at ∙ ap (λ y. take i ps ++ y ∷ []) (sym found) in
      let all : take (i + 1 + len) ps ≡ take i ps ++ d ∷ others =
      take-add (i + 1) len ps ∙ ap (λ r. r ++ take len (drop (i + 1) ps)) one ∙ append_assoc (take i ps) (d ∷ []) (take len (drop (i + 1) ps)) ∙ ap (λ r. take i ps ++ d ∷ r) (sym is) in
      let written : members (s.0 ++ g ∷ []) ≡ take (i + 1 + len) ps =
      flat_map-append (λ g. g.0 ∷ g.1) s.0 (g ∷ []) ∙ ap (λ r. r ++ members (g ∷ [])) s.2 ∙ ap (λ r. take i ps ++ r) (append-nil (d ∷ others)) ∙ sym all in
      let here : get_or ps i d ≡ d = sym found in
      let before : All (λ h. IsBefore h.0 d) s.0 = subst (λ x. All (λ h. IsBefore h.0 x) s.0) here (s.6 i d (omega arith) at) in
      let cross : All (λ h. All (λ k. IsBefore h.0 k.0) (g ∷ [])) s.0 =
      All-weaker (λ h. IsBefore h.0 d) (λ h. All (λ k. IsBefore h.0 k.0) (g ∷ [])) (λ h b. All-cons (λ k. IsBefore h.0 k.0) g [] b (All-nil (λ k. IsBefore h.0 k.0))) s.0 before in
      let alone : AllPairs (λ h k. IsBefore h.0 k.0) (g ∷ []) = λ i j d l m. absurd (omega (arith, l, m)) in
      let keys : All (λ p. key_of p ≡ key_of d) others = subst (All (λ p. key_of p ≡ key_of d)) (sym is) (within_take (λ p. key_of p ≡ key_of d) (drop (i + 1) ps) len fits same) in (
        s.0 ++ g ∷ [],
        s.1 ++ l.0,
        written,
        pairs_append (λ h k. IsBefore h.0 k.0) s.0 (g ∷ []) s.3 alone cross,
        lines_append s.0 (g ∷ []) a b s.1 l.0 s.4 (l.0, [], b, 0, sym (append-nil l.0), omega arith, keys, l.1, (refl, refl)),
        appends_both o m n s.1 l.0 s.5 l.2,
        λ j e k u. All-append (λ h. IsBefore h.0 (get_or ps j e)) s.0 (g ∷ []) (s.6 j e (omega (arith, k)) u)
            (All-cons (λ h. IsBefore h.0 (get_or ps j e)) g [] (before_rest sorted next j e k u) (All-nil (λ h. IsBefore h.0 (get_or ps j e)))),
      )

-- intervals to the end of a list
pub writes_all : (o n : Option (List ℕ)) (ps : List Stored) (i finer : ℕ) → length ps ≤ i → WritesUpTo ps i finer o n → Writes ps finer o n
writes_all o n ps i finer l s = (s.0, s.1, s.2 ∙ take_all i ps l, s.3, s.4, s.5)

module _ {X : Type 0} (f : X → Stored) where
  map_take : (n : ℕ) (xs : List X) → map f (take n xs) ≡ take n (map f xs)
  map_take zero xs = refl
  map_take (suc n) [] = refl
  map_take (suc n) (x ∷ xs) = ap (λ l. f x ∷ l) (map_take n xs)

  map_drop : (n : ℕ) (xs : List X) → map f (drop n xs) ≡ drop n (map f xs)
  map_drop zero xs = refl
  map_drop (suc n) [] = refl
  map_drop (suc n) (x ∷ xs) = map_drop n xs

  -- the line of an interval and of all of its key after it, where items hold intervals
  pub writes_items : (xs : List X) (i len : ℕ) (d : X) (a b : ℕ) (o m n : Option (List ℕ)) (others : List X) → i < length xs → d ≡ get_or xs i d → others ≡ take len (drop (i + 1) xs) → AreSorted (map f xs)
      → len ≤ length (drop (i + 1) xs) → AllWithin (λ x. key_of (f x) ≡ key_of (f d)) (drop (i + 1) xs) 0 len
      → (len < length (drop (i + 1) xs) → HoldsAt (λ x. key_of (f x) ≢ key_of (f d)) (drop (i + 1) xs) len)
      → WritesUpTo (map f xs) i a o m → WritesLine (f d) (map f others) b m n → WritesUpTo (map f xs) (i + 1 + len) (a + b) o n
  writes_items xs i len d a b o m n others at found is sorted fits same next s l =
      let rest : List X = drop (i + 1) xs in
      let there : map f rest ≡ drop (i + 1) (map f xs) = map_drop (i + 1) xs in
      let inside : i < length (map f xs) = omega (arith, at, length-map xs f) in
      let long : length (map f rest) ≡ length rest = length-map rest f in
      let all : map f others ≡ take len (drop (i + 1) (map f xs)) = ap (map f) is ∙ map_take len rest ∙ ap (take len) there in
      let within : len ≤ length (drop (i + 1) (map f xs)) = subst (λ l. len ≤ length l) there (omega (arith, fits, long)) in
      let same_all : AllWithin (λ p. key_of p ≡ key_of (f d)) (map f rest) 0 len = λ k e low high.
      subst (λ p. key_of p ≡ key_of (f d)) (sym (get_or-map f rest k d e (omega (arith, high, fits)))) (same k d low high) in
      let next_one : len < length (map f rest) → HoldsAt (λ p. key_of p ≢ key_of (f d)) (map f rest) len = λ more e.
      let below : len < length rest = omega (arith, more, long) in
      subst (λ p. key_of p ≢ key_of (f d)) (sym (get_or-map f rest len d e below)) (next below d) in
      writes_more (map f xs) i len (f d) inside (ap f found ∙ sym (get_or-map f xs i d (f d) at)) a b o m n (map f others) all sorted within
      (subst (λ l. AllWithin (λ p. key_of p ≡ key_of (f d)) l 0 len) there same_all)
      (subst (λ l. len < length l → HoldsAt (λ p. key_of p ≢ key_of (f d)) l len) there next_one) s l
