-- Sums, and the indices of their tags.
use Rattle.std.proofs.Common.{◌≡◌, ℕ, zero, suc, ◌<◌, ◌-◌, ◌^◌, Bool, true, false, cond, if◌then◌else◌, List, [], ◌∷◌, ◌++◌, Option, Some, None, unwrap_or, length, map, get_or, String, Global, refl, sym, ap, subst, ◌∙◌, arith}
use Rattle.std.specs.Option.{option_map}
use Rattle.std.proofs.Math.ListN.{set}
use Rattle.std.specs.Map.{update}
use Rattle.std.specs.Str.{bytes_eq}
use Rattle.std.proofs.lemmas.Option.{none-some}
use Rattle.std.proofs.lemmas.Slice.Eq.{bytes_eq-Decides}
use Rattle.std.specs.String.{string_bytes}
use Rattle.hdr_model.specs.Plain.{Plain}
use Rattle.hdr_model.specs.Merging.{after_add}
use Rattle.hdr_logs.specs.Sums.{Sum, is_same_tag, empty_sum, with_added, view_of_sum, after_interval, index_of, added_at, IsSumAt, Summing, Adds, AddsAll, Passes, PassesAll}
use Rattle.hdr_logs.specs.Intervals.{LogInterval}
use Rattle.hdr_logs.specs.declared.sums.TagSum.{TagSum}

-- after a sum of another tag
after_other : (sigfig : ℕ) (tag : Option (List ℕ)) (sum : Sum) (sums rest : List Sum) (j : ℕ) → is_same_tag sum.tag tag ≡ false → IsSumAt sigfig sums rest tag j → IsSumAt sigfig (sum ∷ sums) (sum ∷ rest) tag (suc j)
unfolding after_interval added_at
after_other sigfig tag sum sums rest j other at =
    (omega (arith, at.0), λ h. ap (λ b. if b then with_added sum h ∷ sums else sum ∷ after_interval sigfig sums tag h) other ∙ ap (λ l. sum ∷ l) (at.1 h))

first_of_tag : (sigfig : ℕ) (tag : Option (List ℕ)) (sum : Sum) (sums : List Sum) → is_same_tag sum.tag tag ≡ true → IsSumAt sigfig (sum ∷ sums) (sum ∷ sums) tag 0
unfolding after_interval added_at
first_of_tag sigfig tag sum sums same =
    (omega arith, λ h. ap (λ b. if b then with_added sum h ∷ sums else sum ∷ after_interval sigfig sums tag h) same)

-- the index of a tag, from whether the first sum has it
abbrev index_from : Bool → Option ℕ → Option ℕ
index_from b o = if b then Some 0 else option_map suc o

found_behind : (sigfig : ℕ) (tag : Option (List ℕ)) (sum : Sum) (sums : List Sum) (i : ℕ) (b : Bool) (o : Option ℕ) → is_same_tag sum.tag tag ≡ b → index_from b o ≡ Some i
    → ((j : ℕ) → o ≡ Some j → IsSumAt sigfig sums sums tag j) → IsSumAt sigfig (sum ∷ sums) (sum ∷ sums) tag i
found_behind sigfig tag sum sums i true o is e rest =
    let zeroth : 0 ≡ i = cc in
    subst (IsSumAt sigfig (sum ∷ sums) (sum ∷ sums) tag) zeroth (first_of_tag sigfig tag sum sums is)
found_behind sigfig tag sum sums i false None is e rest = absurd (none-some i e)
found_behind sigfig tag sum sums i false (Some j) is e rest =
    let next : suc j ≡ i = cc in
    subst (IsSumAt sigfig (sum ∷ sums) (sum ∷ sums) tag) next (after_other sigfig tag sum sums sums j is (rest j refl))

-- a histogram is added to the sum of its tag, which is at its first index
pub found_at : (sigfig : ℕ) (tag : Option (List ℕ)) (sums : List Sum) (i : ℕ) → index_of tag sums ≡ Some i → IsSumAt sigfig sums sums tag i
unfolding index_of
found_at sigfig tag [] i e = absurd (none-some i e)
found_at sigfig tag (sum ∷ sums) i e =
    found_behind sigfig tag sum sums i (is_same_tag sum.tag tag) (index_of tag sums) refl e (λ j is. found_at sigfig tag sums j is)

abbrev with_sum : ℕ → Option (List ℕ) → List Sum → List Sum
with_sum sigfig tag sums = sums ++ empty_sum sigfig tag ∷ []

pushed_behind : (sigfig : ℕ) (tag : Option (List ℕ)) (sum : Sum) (sums : List Sum) (b : Bool) (o : Option ℕ) → is_same_tag sum.tag tag ≡ b → index_from b o ≡ None
    → (o ≡ None → IsSumAt sigfig sums (with_sum sigfig tag sums) tag (length sums)) → IsSumAt sigfig (sum ∷ sums) (sum ∷ with_sum sigfig tag sums) tag (suc (length sums))
pushed_behind sigfig tag sum sums true o is e rest = absurd (none-some 0 (sym e))
pushed_behind sigfig tag sum sums false (Some j) is e rest = absurd (none-some (suc j) (sym e))
pushed_behind sigfig tag sum sums false None is e rest = after_other sigfig tag sum sums (with_sum sigfig tag sums) (length sums) is (rest refl)

-- a tag that has no sum gets one at the end
pub pushed_at : (sigfig : ℕ) (tag : Option (List ℕ)) (sums : List Sum) → index_of tag sums ≡ None → IsSumAt sigfig sums (with_sum sigfig tag sums) tag (length sums)
unfolding index_of after_interval added_at
pushed_at sigfig tag [] e = (omega arith, λ h. refl)
pushed_at sigfig tag (sum ∷ sums) e =
    pushed_behind sigfig tag sum sums (is_same_tag sum.tag tag) (index_of tag sums) refl e (λ is. pushed_at sigfig tag sums is)

-- the first index, or else this one
abbrev or_at : Option ℕ → Bool → ℕ → Option ℕ
or_at (Some j) b i = Some j
or_at None b i = if b then Some i else None

next_or : (o : Option ℕ) (b : Bool) (i : ℕ) → option_map suc (or_at o b i) ≡ or_at (option_map suc o) b (suc i)
next_or (Some j) b i = refl
next_or None true i = refl
next_or None false i = refl

with_behind : (b same : Bool) (o more : Option ℕ) (i : ℕ) → more ≡ or_at o same i → index_from b more ≡ or_at (index_from b o) same (suc i)
with_behind true same o more i e = refl
with_behind false same o more i e = ap (option_map suc) e ∙ next_or o same i

-- the indices after a sum more
pub index_with : (sigfig : ℕ) (tag other : Option (List ℕ)) (sums : List Sum) → index_of other (with_sum sigfig tag sums) ≡ or_at (index_of other sums) (is_same_tag tag other) (length sums)
unfolding index_of
index_with sigfig tag other [] = refl
index_with sigfig tag other (sum ∷ sums) =
    with_behind (is_same_tag sum.tag other) (is_same_tag tag other) (index_of other sums) (index_of other (with_sum sigfig tag sums)) (length sums) (index_with sigfig tag other sums)

-- the indices after a histogram was added
pub index_added : (i : ℕ) (sums : List Sum) (h : Plain) (tag : Option (List ℕ)) → index_of tag (added_at i sums h) ≡ index_of tag sums
unfolding index_of added_at
index_added i [] h tag = refl
index_added zero (sum ∷ sums) h tag = refl
index_added (suc i) (sum ∷ sums) h tag = ap (λ o. if is_same_tag sum.tag tag then Some 0 else option_map suc o) (index_added i sums h tag)

or_false : (o : Option ℕ) (i : ℕ) → or_at o false i ≡ o
or_false None i = refl
or_false (Some j) i = refl

-- the index of another tag stays
pub index_stays : (sigfig : ℕ) (tag other : Option (List ℕ)) (sums : List Sum) → is_same_tag tag other ≡ false → index_of other (with_sum sigfig tag sums) ≡ index_of other sums
index_stays sigfig tag other sums differ = index_with sigfig tag other sums ∙ ap (λ b. or_at (index_of other sums) b (length sums)) differ ∙ or_false (index_of other sums) (length sums)

-- the index of the tag is that of the sum more
pub index_new : (sigfig : ℕ) (tag other : Option (List ℕ)) (sums : List Sum) → is_same_tag tag other ≡ true → index_of other sums ≡ None → index_of other (with_sum sigfig tag sums) ≡ Some (length sums)
index_new sigfig tag other sums same none = index_with sigfig tag other sums ∙ ap (λ b. or_at (index_of other sums) b (length sums)) same ∙ ap (λ o. or_at o true (length sums)) none

-- the indices after a tag was inserted
pub indices_with : (sigfig : ℕ) (tag : List ℕ) (sums : List Sum) (old new : List ℕ → Option ℕ) → ((t : List ℕ) → old t ≡ index_of (Some t) sums) → index_of (Some tag) sums ≡ None
    → ((t : List ℕ) → new t ≡ update bytes_eq old tag (Some (length sums)) t) → (t : List ℕ) → new t ≡ index_of (Some t) (with_sum sigfig (Some tag) sums)
indices_with sigfig tag sums old new are none after t = by_case (bytes_eq tag t) refl
  where
    by_case : (b : Bool) → bytes_eq tag t ≡ b → new t ≡ index_of (Some t) (with_sum sigfig (Some tag) sums)
    by_case true is =
        let same : tag ≡ t = (bytes_eq-Decides tag t).0 is in
        let gone : index_of (Some t) sums ≡ None = subst (λ x. index_of (Some x) sums ≡ None) same none in
        after t ∙ ap (λ b. cond b (Some (length sums)) (old t)) is ∙ sym (index_new sigfig (Some tag) (Some t) sums is gone)
    by_case false is = after t ∙ ap (λ b. cond b (Some (length sums)) (old t)) is ∙ are t ∙ sym (index_stays sigfig (Some tag) (Some t) sums is)

-- one sum of a list is set to what it is after a histogram was added
pub added_sum : (sums : List TagSum) (i : ℕ) (d new : TagSum) (h : Plain) → i < length sums → view_of_sum new ≡ with_added (view_of_sum (get_or sums i d)) h
    → map view_of_sum (set sums i new) ≡ added_at i (map view_of_sum sums) h
unfolding added_at
added_sum [] i d new h l e = absurd (omega arith)
added_sum (sum ∷ sums) zero d new h l e = ap (λ s. s ∷ map view_of_sum sums) e
added_sum (sum ∷ sums) (suc i) d new h l e =
    let below : i < length sums = omega (arith, l) in
    ap (λ rest. view_of_sum sum ∷ rest) (added_sum sums i d new h below e)

abbrev sum_of : Option (String Global) → Plain → Sum
sum_of tag h = record { tag = option_map string_bytes tag; histogram = h }

-- a sum that keeps its tag
pub sum_added : (old new : TagSum) (h : Plain) → new.tag ≡ old.tag → new.histogram ≡ after_add (2 ^ 64 - 1) old.histogram h → view_of_sum new ≡ with_added (view_of_sum old) h
sum_added old new h tag is = ap (λ t. sum_of t new.histogram) tag ∙ ap (sum_of old.tag) is

-- intervals are added, and then one more
pub adds_more : (all : List LogInterval) (i : LogInterval) (old mid new : Summing) → AddsAll old all mid → Adds mid i new → AddsAll old (all ++ i ∷ []) new
adds_more [] i old mid new are one = (new, subst (λ s. Adds s i new) are one, refl)
adds_more (first ∷ all) i old mid new are one = (are.0, are.1, adds_more all i are.0 mid new are.2 one)

-- intervals are added and taken, and then one more
pub passes_more : {S : Type 0} (takes : S → ℕ → Plain → ℕ → S → Type 0) (decimals : ℕ) (all : List LogInterval) (i : LogInterval) (old mid new : Summing) (sink between after : S)
    → PassesAll takes decimals old all mid sink between → Passes takes decimals mid i new between after → PassesAll takes decimals old (all ++ i ∷ []) new sink after
passes_more {S} takes decimals [] i old mid new sink between after are one =
    (new, after, subst (λ s. Passes takes decimals s i new sink after) are.0 (subst (λ s. Passes takes decimals mid i new s after) are.1 one), (refl, refl))
passes_more takes decimals (first ∷ all) i old mid new sink between after are one =
    (are.0, are.1, are.2, passes_more takes decimals all i are.0 mid new are.1 between after are.3 one)

-- the decimals of intervals are known, unless there are none
abbrev pub AreKnownOf : List LogInterval → Option ℕ → Type 0
AreKnownOf [] decimals = Unit {0}
AreKnownOf (i ∷ all) decimals = (d : ℕ) × (decimals ≡ Some d)

-- the same where the first of them makes the decimals known, and the others keep them
pub passes_then : {S : Type 0} (takes : S → ℕ → Plain → ℕ → S → Type 0) (all : List LogInterval) (i : LogInterval) (old mid new : Summing) (sink between after : S) (before now : Option ℕ)
    → ((d : ℕ) → before ≡ Some d → now ≡ Some d) → AreKnownOf all before
    → PassesAll takes (unwrap_or before 0) old all mid sink between → Passes takes (unwrap_or now 0) mid i new between after
    → PassesAll takes (unwrap_or now 0) old (all ++ i ∷ []) new sink after
passes_then takes [] i old mid new sink between after before now keeps known are one =
    passes_more takes (unwrap_or now 0) [] i old mid new sink between after are one
passes_then takes (first ∷ all) i old mid new sink between after before now keeps known are one =
    let same : before ≡ now = known.1 ∙ sym (keeps known.0 known.1) in
    passes_more takes (unwrap_or now 0) (first ∷ all) i old mid new sink between after
    (subst (λ d. PassesAll takes (unwrap_or d 0) old (first ∷ all) mid sink between) same are) one

-- they are known with one more
pub known_then : (all : List LogInterval) (i : LogInterval) (now : Option ℕ) (d : ℕ) → now ≡ Some d → AreKnownOf (all ++ i ∷ []) now
known_then [] i now d is = (d, is)
known_then (first ∷ all) i now d is = (d, is)

-- a text is the same as itself
pub same_text : (t : List ℕ) → bytes_eq t t ≡ true
same_text t = (bytes_eq-Decides t t).1 refl
