-- An episode joins the first incident that accepts it.
use Rattle.std.proofs.Common.{◌≡◌, ℕ, suc, ◌+◌, ◌<◌, ◌≤◌, ◌++◌, ◌∷◌, [], Bool, true, false, not, cond, ◌||◌, List, length, get_or, set, map, refl, ap, sym, subst, ◌∙◌, arith}
use Rattle.std.specs.List.{list_any, position_or_len}
use Rattle.hdr_verdict.specs.declared.incident.Incident.{Incident}
use Rattle.hdr_verdict.specs.Episodes.{EpisodeValue, view_of_episode}
use Rattle.hdr_verdict.specs.Incidents.{IncidentValue, view_of_incident, episodes_in, accepts, joined_by, new_incident, with_episode}

list_any-map : {X Y : Type 0} (p : Y → Bool) (v : X → Y) (xs : List X) → list_any (λ x. p (v x)) xs ≡ list_any p (map v xs)
list_any-map p v [] = refl
list_any-map p v (x ∷ xs) = ap (λ b. p (v x) || b) (list_any-map p v xs)

-- a test of the episodes that joined an incident, whose heaviest one fails
pub any-joined : (p : EpisodeValue → Bool) (i : Incident) → p (view_of_episode i.heaviest) ≡ false → list_any (λ e. p (view_of_episode e)) i.joined.items ≡ list_any p (episodes_in (view_of_incident i))
any-joined p i none = list_any-map p view_of_episode i.joined.items ∙ ap (λ b. b || list_any p (map view_of_episode i.joined.items)) (sym none)

-- the first of some incidents that accepts an episode
abbrev pub first_for : EpisodeValue → List Incident → ℕ
first_for e is = position_or_len (λ i. accepts (view_of_incident i) e) is

first-yes : (e : EpisodeValue) (i : Incident) (is : List Incident) → accepts (view_of_incident i) e ≡ true → first_for e (i ∷ is) ≡ 0
first-yes e i is passes = ap (λ t. cond (not t) (1 + first_for e is) 0) passes

first-no : (e : EpisodeValue) (i : Incident) (is : List Incident) → accepts (view_of_incident i) e ≡ false → first_for e (i ∷ is) ≡ suc (first_for e is)
first-no e i is fails = ap (λ t. cond (not t) (1 + first_for e is) 0) fails ∙ omega arith

with-yes : (e : EpisodeValue) (v : IncidentValue) (vs : List IncidentValue) → accepts v e ≡ true → with_episode (v ∷ vs) e ≡ joined_by v e ∷ vs
with-yes e v vs passes = ap (λ t. cond t (joined_by v e ∷ vs) (v ∷ with_episode vs e)) passes

with-no : (e : EpisodeValue) (v : IncidentValue) (vs : List IncidentValue) → accepts v e ≡ false → with_episode (v ∷ vs) e ≡ v ∷ with_episode vs e
with-no e v vs fails = ap (λ t. cond t (joined_by v e ∷ vs) (v ∷ with_episode vs e)) fails

-- it joins an incident that is there
pub joins : (e : EpisodeValue) (is : List Incident) (n : ℕ) (i j : Incident) → n ≡ first_for e is → n < length is → i ≡ get_or is n i → view_of_incident j ≡ joined_by (view_of_incident i) e
    → map view_of_incident (set is n j) ≡ with_episode (map view_of_incident is) e
joins e [] n i j at h here new = absurd (omega arith)
joins e (k ∷ ks) n i j at h here new = by_cases (accepts (view_of_incident k) e) refl (joins e ks)
  where
    by_cases : (t : Bool) → accepts (view_of_incident k) e ≡ t
        → ((n : ℕ) (i j : Incident) → n ≡ first_for e ks → n < length ks → i ≡ get_or ks n i → view_of_incident j ≡ joined_by (view_of_incident i) e
        → map view_of_incident (set ks n j) ≡ with_episode (map view_of_incident ks) e)
        → map view_of_incident (set (k ∷ ks) n j) ≡ with_episode (view_of_incident k ∷ map view_of_incident ks) e
    by_cases true passes rest =
        let start : n ≡ 0 = at ∙ first-yes e k ks passes in
        let same : i ≡ k = subst (λ m. i ≡ get_or (k ∷ ks) m i) start here in
        ap (λ m. map view_of_incident (set (k ∷ ks) m j)) start
        ∙ ap (λ v. v ∷ map view_of_incident ks) (new ∙ ap (λ x. joined_by (view_of_incident x) e) same)
        ∙ sym (with-yes e (view_of_incident k) (map view_of_incident ks) passes)
    by_cases false fails rest =
        let next : n ≡ suc (first_for e ks) = at ∙ first-no e k ks fails in
        let there : i ≡ get_or ks (first_for e ks) i = subst (λ m. i ≡ get_or (k ∷ ks) m i) next here in
        ap (λ m. map view_of_incident (set (k ∷ ks) m j)) next
        ∙ ap (λ vs. view_of_incident k ∷ vs) (rest (first_for e ks) i j refl (omega arith) there new)
        ∙ sym (with-no e (view_of_incident k) (map view_of_incident ks) fails)

-- it begins an incident if none accepts it
pub begins : (e : EpisodeValue) (is : List Incident) (new : Incident) → length is ≤ first_for e is → view_of_incident new ≡ new_incident e
    → map view_of_incident (is ++ new ∷ []) ≡ with_episode (map view_of_incident is) e
begins e [] new none is_new = ap (λ v. v ∷ []) is_new
begins e (k ∷ ks) new none is_new = by_cases (accepts (view_of_incident k) e) refl (λ h. begins e ks new h is_new)
  where
    by_cases : (t : Bool) → accepts (view_of_incident k) e ≡ t
        → (length ks ≤ first_for e ks → map view_of_incident (ks ++ new ∷ []) ≡ with_episode (map view_of_incident ks) e)
        → map view_of_incident ((k ∷ ks) ++ new ∷ []) ≡ with_episode (view_of_incident k ∷ map view_of_incident ks) e
    by_cases true passes rest = absurd (omega (arith, first-yes e k ks passes))
    by_cases false fails rest =
        ap (λ vs. view_of_incident k ∷ vs) (rest (omega (arith, first-no e k ks fails))) ∙ sym (with-no e (view_of_incident k) (map view_of_incident ks) fails)
