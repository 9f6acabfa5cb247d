-- What incidents keep of the episodes that join them.
use Rattle.std.proofs.Common.{◌≡◌, ℕ, suc, ◌+◌, ◌-◌, ◌^◌, ◌≤◌, ◌<◌, ◌==◌, ◌++◌, ◌∷◌, [], Bool, true, false, not, cond, ◌&&◌, ◌||◌, min, List, length, get_or, count_by, refl, ap, sym, subst, ◌∙◌, arith, inl, inr}
use Rattle.std.specs.List.{fold, sum_by, list_any, All, AllAdjacentBelow}
use Rattle.std.specs.List.Sorted.{IsPermutation}
use Rattle.std.specs.Ordering.{nat_cmp, ordering_then, is_lt}
use Rattle.std.specs.declared.cmp.Ordering.{Ordering}
use Rattle.std.specs.declared.cmp.Ordering.TheVariants.{Less, Equal, Greater}
use Rattle.std.proofs.lemmas.Bool.{and_parts, or_parts, eqb-true, cases_lt, not-true, lt-ltb, true≢false}
use Rattle.std.proofs.lemmas.List.Elements.{All-cons, All-head, All-tail, All-nil, All-push, All-weaker}
use Rattle.std.proofs.lemmas.List.Sums.{sum_by-cons, sum_by_push}
use Rattle.std.proofs.lemmas.List.Sorted.{sum_by-IsPermutation, All-permutation, sorted_far, ranks_by}
use Rattle.hdr_verdict.proofs.Keys.{key_total}
use Rattle.hdr_verdict.specs.Episodes.{EpisodeValue}
use Rattle.hdr_verdict.specs.Incidents.{IncidentValue, AreIncidents, accepts, has_tag, is_alike, is_same_sort, joined_by, new_incident, with_episode, key_cmp, key_of_episode, key_of_incident, episodes_in, AreSortedEpisodes, JoinsAlike, HasHeaviestFirst, HasEachTagOnce, HasSumOfWeights}

-- ---- sums

abbrev within : (EpisodeValue → ℕ) → IncidentValue → ℕ
within g i = sum_by g (episodes_in i)

abbrev total : (EpisodeValue → ℕ) → List IncidentValue → ℕ
total g is = sum_by (within g) is

within-new : (g : EpisodeValue → ℕ) (e : EpisodeValue) → within g (new_incident e) ≡ g e
within-new g e = omega (arith, sum_by-cons g e [])

within-joined : (g : EpisodeValue → ℕ) (i : IncidentValue) (e : EpisodeValue) → within g (joined_by i e) ≡ within g i + g e
within-joined g i e = omega (arith, sum_by-cons g i.heaviest i.joined, sum_by-cons g i.heaviest (i.joined ++ e ∷ []), sum_by_push g i.joined e)

total-with : (g : EpisodeValue → ℕ) (is : List IncidentValue) (e : EpisodeValue) → total g (with_episode is e) ≡ total g is + g e
total-with g [] e = omega (arith, sum_by-cons (within g) (new_incident e) [], within-new g e)
total-with g (i ∷ is) e = by_cases (accepts i e) (total-with g is e)
  where
    by_cases : (t : Bool) → total g (with_episode is e) ≡ total g is + g e → total g (cond t (joined_by i e ∷ is) (i ∷ with_episode is e)) ≡ total g (i ∷ is) + g e
    by_cases true rest = omega (arith, sum_by-cons (within g) (joined_by i e) is, sum_by-cons (within g) i is, within-joined g i e)
    by_cases false rest = omega (arith, sum_by-cons (within g) i (with_episode is e), sum_by-cons (within g) i is, rest)

total-fold : (g : EpisodeValue → ℕ) (is : List IncidentValue) (es : List EpisodeValue) → total g (fold with_episode is es) ≡ total g is + sum_by g es
total-fold g is [] = omega arith
total-fold g is (e ∷ es) = total-fold g (with_episode is e) es ∙ omega (arith, total-with g is e, sum_by-cons g e es)

-- each episode is in one incident
pub each-once : (episodes : List EpisodeValue) (incidents : List IncidentValue) → AreIncidents episodes incidents → (test : EpisodeValue → Bool)
    → count_by test episodes ≡ sum_by (λ i. count_by test (episodes_in i)) incidents
each-once episodes incidents h test =
    let g : EpisodeValue → ℕ = λ e. cond (test e) 1 0 in
    let one = sum_by-IsPermutation g episodes h.sorted h.permutes in
    let two = total-fold g [] h.sorted in
    let three = sum_by-IsPermutation (within g) (fold with_episode [] h.sorted) incidents h.joins in
    omega arith

-- ---- facts on each incident

-- what holds of a new incident, and stays when an episode joins
module _ (P : IncidentValue → Type 0) (Q : EpisodeValue → Type 0) (new : (e : EpisodeValue) → Q e → P (new_incident e)) (join : (i : IncidentValue) (e : EpisodeValue) → accepts i e ≡ true → Q e → P i → P (joined_by i e)) where
  all-with : (is : List IncidentValue) (e : EpisodeValue) → Q e → All P is → All P (with_episode is e)
  all-with [] e q h = All-cons P (new_incident e) [] (new e q) h
  all-with (i ∷ is) e q h = by_cases (accepts i e) refl (all-with is e q (All-tail P i is h))
    where
      by_cases : (t : Bool) → accepts i e ≡ t → All P (with_episode is e) → All P (cond t (joined_by i e ∷ is) (i ∷ with_episode is e))
      by_cases true e rest = All-cons P _ is (join i _ e q (All-head P i is h)) (All-tail P i is h)
      by_cases false e rest = All-cons P i _ (All-head P i is h) rest

  all-fold : (is : List IncidentValue) (es : List EpisodeValue) → All Q es → All P is → All P (fold with_episode is es)
  all-fold is [] q h = h
  all-fold is (e ∷ es) q h = all-fold (with_episode is e) es (All-tail Q e es q) (all-with is e (All-head Q e es q) h)

  pub all-incidents : (episodes : List EpisodeValue) (incidents : List IncidentValue) → AreIncidents episodes incidents → All Q episodes → All P incidents
  all-incidents episodes incidents h q =
      All-permutation P (fold with_episode [] h.sorted) incidents h.joins (all-fold [] h.sorted (All-permutation Q episodes h.sorted h.permutes q) (All-nil P))

abbrev Any : EpisodeValue → Type 0
Any e = Unit {0}

every : (es : List EpisodeValue) → All Any es
every es = λ k d h. tt

alike-join : (i : IncidentValue) (e : EpisodeValue) → accepts i e ≡ true → Any e → JoinsAlike i → JoinsAlike (joined_by i e)
alike-join i e t q h =
    let parts = and_parts (is_same_sort i.heaviest e && is_alike i.heaviest e) (not (has_tag i e.tag)) t in
    All-push (λ f. (is_same_sort i.heaviest f ≡ true) × (is_alike i.heaviest f ≡ true)) i.joined e h (and_parts (is_same_sort i.heaviest e) (is_alike i.heaviest e) parts.0)

pub alike : (episodes : List EpisodeValue) (incidents : List IncidentValue) → AreIncidents episodes incidents → All JoinsAlike incidents
alike episodes incidents h =
    all-incidents JoinsAlike Any (λ e q. All-nil (λ f. (is_same_sort e f ≡ true) × (is_alike e f ≡ true))) alike-join episodes incidents h (every episodes)

-- ---- tags

none-counted : (p : EpisodeValue → Bool) (es : List EpisodeValue) → list_any p es ≡ false → count_by p es ≡ 0
none-counted p [] h = refl
none-counted p (e ∷ es) h =
    let parts = or_parts (p e) (list_any p es) h in
    omega (arith, sum_by-cons (λ e. cond (p e) 1 0) e es, ap {B = ℕ} (λ (t : Bool). cond t 1 0) parts.0, none-counted p es parts.1)

at-most-one : (t : Bool) → cond t 1 0 ≤ 1
at-most-one true = omega arith
at-most-one false = omega arith

once-new : (e : EpisodeValue) → Any e → HasEachTagOnce (new_incident e)
once-new e q tag = omega (arith, within-new (λ f. cond (f.tag == tag) 1 0) e, at-most-one (e.tag == tag))

once-join : (i : IncidentValue) (e : EpisodeValue) → accepts i e ≡ true → Any e → HasEachTagOnce i → HasEachTagOnce (joined_by i e)
once-join i e t q h tag = by_cases (e.tag == tag) refl
  where
    by_cases : (s : Bool) → (e.tag == tag) ≡ s → count_by (λ f. f.tag == tag) (episodes_in (joined_by i e)) ≤ 1
    by_cases true same =
        let parts = and_parts (is_same_sort i.heaviest e && is_alike i.heaviest e) (not (has_tag i e.tag)) t in
        let other : has_tag i e.tag ≡ false = not-true (has_tag i e.tag) parts.1 in
        let none : count_by (λ f. f.tag == e.tag) (episodes_in i) ≡ 0 = none-counted (λ f. f.tag == e.tag) (episodes_in i) other in
        let tags : e.tag ≡ tag = eqb-true e.tag tag same in
        let none_here : count_by (λ f. f.tag == tag) (episodes_in i) ≡ 0 = subst (λ n. count_by (λ f. f.tag == n) (episodes_in i) ≡ 0) tags none in
        omega (arith, within-joined (λ f. cond (f.tag == tag) 1 0) i e, at-most-one (e.tag == tag))
    by_cases false other = omega (arith, within-joined (λ f. cond (f.tag == tag) 1 0) i e, ap {B = ℕ} (λ (s : Bool). cond s 1 0) other, h tag)

pub tags-once : (episodes : List EpisodeValue) (incidents : List IncidentValue) → AreIncidents episodes incidents → All HasEachTagOnce incidents
tags-once episodes incidents h = all-incidents HasEachTagOnce Any once-new once-join episodes incidents h (every episodes)

-- ---- weights

abbrev Fits : EpisodeValue → Type 0
Fits e = e.weight < 2 ^ 128

sum-new : (e : EpisodeValue) → Fits e → HasSumOfWeights (new_incident e)
sum-new e fits = omega (arith, within-new (λ f. f.weight) e)

sum-join : (i : IncidentValue) (e : EpisodeValue) → accepts i e ≡ true → Fits e → HasSumOfWeights i → HasSumOfWeights (joined_by i e)
sum-join i e t fits h = omega (arith, within-joined (λ f. f.weight) i e)

pub weights : (episodes : List EpisodeValue) (incidents : List IncidentValue) → AreIncidents episodes incidents → All (λ e. e.weight < 2 ^ 128) episodes → All HasSumOfWeights incidents
weights episodes incidents h fits = all-incidents HasSumOfWeights Fits sum-new sum-join episodes incidents h fits

-- ---- the order

lighter : (i j : IncidentValue) → is_lt (key_cmp (key_of_incident j) (key_of_incident i)) ≡ false → j.weight ≤ i.weight
lighter i j h = elim (cases_lt i.weight j.weight) [
  | inl less ↦
      (let first : nat_cmp i.weight j.weight ≡ Less = ap (λ t. cond t Less (cond (i.weight == j.weight) Equal Greater)) (lt-ltb i.weight j.weight less) in
      let all = ap (λ r. is_lt (ordering_then r (ordering_then (nat_cmp j.heaviest.start i.heaviest.start) (nat_cmp j.heaviest.tag i.heaviest.tag)))) first in
      absurd (true≢false (sym all ∙ h)))
  | inr more ↦ more
]

pub falling : (episodes : List EpisodeValue) (incidents : List IncidentValue) → AreIncidents episodes incidents → AllAdjacentBelow (λ i j. j.weight ≤ i.weight) incidents (length incidents)
falling episodes incidents h = λ k d l. lighter (get_or incidents k d) (get_or incidents (k + 1) d) (h.are_sorted k d (omega arith) l)

-- ---- the heaviest first

abbrev Heavier : EpisodeValue → List EpisodeValue → Type 0
Heavier e es = All (λ f. f.weight ≤ e.weight) es

abbrev Falls : List EpisodeValue → Type 0
Falls es = (i j : ℕ) (d : EpisodeValue) → i ≤ j → j < length es → (get_or es j d).weight ≤ (get_or es i d).weight

lighter-episode : (e f : EpisodeValue) → is_lt (key_cmp (key_of_episode f) (key_of_episode e)) ≡ false → f.weight ≤ e.weight
lighter-episode e f h = elim (cases_lt e.weight f.weight) [
  | inl less ↦
      (let first : nat_cmp e.weight f.weight ≡ Less = ap (λ t. cond t Less (cond (e.weight == f.weight) Equal Greater)) (lt-ltb e.weight f.weight less) in
      let all = ap (λ r. is_lt (ordering_then r (ordering_then (nat_cmp f.start e.start) (nat_cmp f.tag e.tag)))) first in
      absurd (true≢false (sym all ∙ h)))
  | inr more ↦ more
]

falls : (es : List EpisodeValue) → AreSortedEpisodes es → Falls es
falls es sorted = λ i j d p q.
    let lt : EpisodeValue → EpisodeValue → Bool = λ e f. is_lt (key_cmp (key_of_episode e) (key_of_episode f)) in
    lighter-episode (get_or es i d) (get_or es j d) (sorted_far lt (ranks_by key_total key_of_episode) es sorted i j d p q)

-- an incident of the first, and of no lighter ones than those to come
abbrev Leads : List EpisodeValue → IncidentValue → Type 0
Leads es i = HasHeaviestFirst i × Heavier i.heaviest es

abbrev Comes : EpisodeValue → List EpisodeValue → EpisodeValue → Type 0
Comes e es f = (f.weight ≤ e.weight) × Heavier f (e ∷ es)

leads-new : (e : EpisodeValue) (es : List EpisodeValue) (f : EpisodeValue) → Comes e es f → Leads (e ∷ es) (new_incident f)
leads-new e es f q = (All-nil (λ g. g.weight ≤ f.weight), q.1)

leads-join : (e : EpisodeValue) (es : List EpisodeValue) (i : IncidentValue) (f : EpisodeValue) → accepts i f ≡ true → Comes e es f → Leads (e ∷ es) i → Leads (e ∷ es) (joined_by i f)
leads-join e es i f t q h =
    let before : e.weight ≤ i.heaviest.weight = All-head (λ g. g.weight ≤ i.heaviest.weight) e es h.1 in
    let at_most = q.0 in
    (All-push (λ g. g.weight ≤ i.heaviest.weight) i.joined f h.0 (omega arith), h.1)

heaviest-fold : (is : List IncidentValue) (es : List EpisodeValue) → Falls es → All (Leads es) is → All HasHeaviestFirst (fold with_episode is es)
heaviest-fold is [] down h = All-weaker (Leads []) HasHeaviestFirst (λ i l. l.0) is h
heaviest-fold is (e ∷ es) down h =
    let own : Heavier e (e ∷ es) = λ k d l. down 0 k d (omega arith) l in
    let now = all-with (Leads (e ∷ es)) (Comes e es) (leads-new e es) (leads-join e es) is e (omega arith, own) h in
    heaviest-fold (with_episode is e) es (λ i j d p q. down (suc i) (suc j) d (omega arith) (omega arith))
    (All-weaker (Leads (e ∷ es)) (Leads es) (λ i l. (l.0, All-tail (λ g. g.weight ≤ i.heaviest.weight) e es l.1)) (with_episode is e) now)

pub heaviest : (episodes : List EpisodeValue) (incidents : List IncidentValue) → AreIncidents episodes incidents → All HasHeaviestFirst incidents
heaviest episodes incidents h =
    All-permutation HasHeaviestFirst (fold with_episode [] h.sorted) incidents h.joins (heaviest-fold [] h.sorted (falls h.sorted h.is_sorted) (All-nil (Leads h.sorted)))
