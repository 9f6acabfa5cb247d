-- Intervals of numbers by time: their order, and their parts before and after a time.
use Rattle.std.proofs.Common.{◌≡◌, ℕ, zero, suc, ◌<◌, ◌≤◌, max, Bool, true, false, not, ◌&&◌, ◌||◌, cond, eqb, length, get_or, set, List, [], ◌∷◌, ◌++◌, refl, sym, ap, subst, ◌∙◌, append-nil, append_assoc, arith, IsPermutation}
use Rattle.std.specs.List.{All, Contains, filter, list_all, list_any}
use Rattle.std.specs.Cmp.{IsTotalOrder}
use Rattle.std.specs.Ordering.{is_lt}
use Rattle.std.proofs.lemmas.Bool.{false≢true}
use Rattle.std.proofs.lemmas.Bool.Decides.{nat_tests}
use Rattle.std.proofs.lemmas.Cmp.{on_total, then_total, nat_cmp_total}
use Rattle.std.proofs.lemmas.List.Elements.{All-contains, All-filter, All-weaker, Contains-append_right, filter-append, filter_passes}
use Rattle.std.proofs.lemmas.List.Folds.{list_all-append, list_any-append}
use Rattle.std.proofs.lemmas.List.Kept.{IsSortedBy-filter}
use Rattle.std.proofs.lemmas.List.Sorted.{IsPermutation-trans, IsPermutation-filter_both, All-permutation, ranks_by}
use Rattle.std.proofs.lemmas.List.Sums.{AllPass-from_list_all, list_all-from_AllPass}
use Rattle.hdr_input.specs.TimeSlices.{begins_before, begins_by, slice_order, AreInOrder}
use Rattle.hdr_input.specs.declared.intervals.TimeSlice.{TimeSlice}

pub slice_order-total : IsTotalOrder slice_order
slice_order-total = then_total (on_total (λ (s : TimeSlice). s.number) nat_cmp_total) (on_total (λ (s : TimeSlice). s.group) nat_cmp_total)

-- intervals with one more, or not
pub list_all-pushed : (p : TimeSlice → Bool) (b : Bool) (slices : List TimeSlice) (slice : TimeSlice) → p slice ≡ true → list_all p slices ≡ true → list_all p (cond b (slices ++ slice ∷ []) slices) ≡ true
list_all-pushed p true slices slice one all = simp (list_all-append, all, one)
list_all-pushed p false slices slice one all = all

pub list_any-pushed : (p : TimeSlice → Bool) (b : Bool) (slices : List TimeSlice) (slice : TimeSlice) → list_any p slices ≡ true → list_any p (cond b (slices ++ slice ∷ []) slices) ≡ true
list_any-pushed p true slices slice some = simp (list_any-append, some)
list_any-pushed p false slices slice some = some

-- intervals that begin by one number begin by a later one
list_all-later : (a b : ℕ) (slices : List TimeSlice) → a ≤ b → list_all (begins_by a) slices ≡ true → list_all (begins_by b) slices ≡ true
list_all-later a b slices le all =
    list_all-from_AllPass (begins_by b) slices (All-weaker (λ s. begins_by a s ≡ true) (λ s. begins_by b s ≡ true) (λ s is. grind (arith, nat_tests)) slices (AllPass-from_list_all (begins_by a) slices all))

pub list_all-raised : (a b : ℕ) (slices : List TimeSlice) → list_all (begins_by a) slices ≡ true → list_all (begins_by (max a b)) slices ≡ true
list_all-raised a b slices all = list_all-later a (max a b) slices (omega arith) all

pub list_all-above : (a b : ℕ) (slices : List TimeSlice) → a < b → list_all (begins_by a) slices ≡ true → list_all (begins_by b) slices ≡ true
list_all-above a b slices lt all = list_all-later a b slices (omega arith) all

-- the first of them begins before a later number
pub list_any-above : (a b : ℕ) (slices : List TimeSlice) → a < b → list_all (begins_by a) slices ≡ true → not (eqb (length slices) 0) ≡ true → list_any (begins_before b) slices ≡ true
list_any-above a b [] lt all some = absurd (false≢true some)
list_any-above a b (s ∷ slices) lt all some =
    let first : begins_by a s ≡ true = AllPass-from_list_all (begins_by a) (s ∷ slices) all 0 s (omega arith) in
    let here : begins_before b s ≡ true = grind (arith, nat_tests) in
    ap (λ t. t || list_any (begins_before b) slices) here

-- an interval with another histogram
pub list_all-set : (p : TimeSlice → Bool) (slices : List TimeSlice) (i : ℕ) (old new : TimeSlice) → old ≡ get_or slices i old → p new ≡ p old → list_all p (set slices i new) ≡ list_all p slices
list_all-set p [] i old new is same = refl
list_all-set p (s ∷ slices) zero old new is same = ap (λ t. t && list_all p slices) (same ∙ ap p is)
list_all-set p (s ∷ slices) (suc i) old new is same = ap (λ t. p s && t) (list_all-set p slices i old new is same)

pub list_any-set : (p : TimeSlice → Bool) (slices : List TimeSlice) (i : ℕ) (old new : TimeSlice) → old ≡ get_or slices i old → p new ≡ p old → list_any p (set slices i new) ≡ list_any p slices
list_any-set p [] i old new is same = refl
list_any-set p (s ∷ slices) zero old new is same = ap (λ t. t || list_any p slices) (same ∙ ap p is)
list_any-set p (s ∷ slices) (suc i) old new is same = ap (λ t. p s || t) (list_any-set p slices i old new is same)

abbrev begins_from : ℕ → TimeSlice → Bool
begins_from number slice = not (begins_before number slice)

same-number : (latest : ℕ) (s : TimeSlice) → begins_by latest s ≡ true → begins_from latest s ≡ true → s.number ≡ latest
same-number latest s by from = grind (arith, nat_tests)

-- of intervals in order those that were gone through are complete or stay, and others are left
pub record Parting (latest : ℕ) (old complete stay left : List TimeSlice) : Type 0 where
  pub done : List TimeSlice
  pub before : complete ≡ filter (begins_before latest) done
  pub after : stay ≡ filter (begins_from latest) done
  pub order : AreInOrder (done ++ left)
  pub same : IsPermutation old (done ++ left)
  pub by : list_all (begins_by latest) (done ++ left) ≡ true

pub parting-none : (latest : ℕ) (old all complete stay left : List TimeSlice) → complete ≡ [] → stay ≡ [] → left ≡ all → IsPermutation old all → AreInOrder all → list_all (begins_by latest) old ≡ true → Parting latest old complete stay left
parting-none latest old all complete stay left nothing none is moved sorted begins = record {
  done = [];
  before = nothing;
  after = none;
  order = subst AreInOrder (sym is) sorted;
  same = subst (IsPermutation old) (sym is) moved;
  by = list_all-from_AllPass (begins_by latest) left (All-permutation (λ s. begins_by latest s ≡ true) old left (subst (IsPermutation old) (sym is) moved) (AllPass-from_list_all (begins_by latest) old begins));
}

-- what was gone through and what is left, with the next interval in either
regrouped : (done left rest : List TimeSlice) (slice : TimeSlice) → left ≡ slice ∷ rest → done ++ left ≡ (done ++ slice ∷ []) ++ rest
regrouped done left rest slice is = ap (λ l. done ++ l) is ∙ sym (append_assoc done (slice ∷ []) rest)

pub parting-complete : (latest : ℕ) (old complete stay left more rest : List TimeSlice) (slice : TimeSlice) → Parting latest old complete stay left → left ≡ slice ∷ rest → more ≡ complete ++ slice ∷ [] → begins_before latest slice ≡ true → Parting latest old more stay rest
parting-complete latest old complete stay left more rest slice p next pushed is = record {
  done = p.done ++ slice ∷ [];
  before = pushed ∙ ap (λ l. l ++ slice ∷ []) p.before ∙ sym (filter-append (begins_before latest) p.done (slice ∷ []) ∙ ap (λ b. filter (begins_before latest) p.done ++ cond b (slice ∷ []) []) is);
  after = p.after ∙ sym (filter-append (begins_from latest) p.done (slice ∷ []) ∙ ap (λ b. filter (begins_from latest) p.done ++ cond (not b) (slice ∷ []) []) is ∙ append-nil (filter (begins_from latest) p.done));
  order = subst AreInOrder (regrouped p.done left rest slice next) p.order;
  same = subst (IsPermutation old) (regrouped p.done left rest slice next) p.same;
  by = ap (list_all (begins_by latest)) (sym (regrouped p.done left rest slice next)) ∙ p.by;
}

pub parting-stays : (latest : ℕ) (old complete stay left more rest : List TimeSlice) (slice : TimeSlice) → Parting latest old complete stay left → left ≡ slice ∷ rest → more ≡ stay ++ slice ∷ [] → begins_before latest slice ≡ false → Parting latest old complete more rest
parting-stays latest old complete stay left more rest slice p next pushed is = record {
  done = p.done ++ slice ∷ [];
  before = p.before ∙ sym (filter-append (begins_before latest) p.done (slice ∷ []) ∙ ap (λ b. filter (begins_before latest) p.done ++ cond b (slice ∷ []) []) is ∙ append-nil (filter (begins_before latest) p.done));
  after = pushed ∙ ap (λ l. l ++ slice ∷ []) p.after ∙ sym (filter-append (begins_from latest) p.done (slice ∷ []) ∙ ap (λ b. filter (begins_from latest) p.done ++ cond (not b) (slice ∷ []) []) is);
  order = subst AreInOrder (regrouped p.done left rest slice next) p.order;
  same = subst (IsPermutation old) (regrouped p.done left rest slice next) p.same;
  by = ap (list_all (begins_by latest)) (sym (regrouped p.done left rest slice next)) ∙ p.by;
}

-- the next interval begins no later than the latest one
pub parting-next : (latest : ℕ) (old complete stay left rest : List TimeSlice) (slice : TimeSlice) → Parting latest old complete stay left → left ≡ slice ∷ rest → slice.number ≤ latest
parting-next latest old complete stay left rest slice p next =
    let all : All (λ s. begins_by latest s ≡ true) (p.done ++ left) = AllPass-from_list_all (begins_by latest) (p.done ++ left) p.by in
    let last : Contains left slice = subst (λ l. Contains l slice) (sym next) (0, omega arith, refl) in
    let one : begins_by latest slice ≡ true = All-contains (λ s. begins_by latest s ≡ true) (p.done ++ left) slice all (Contains-append_right p.done left slice last) in
    grind (arith, nat_tests)

pub no-slices : (slices : List TimeSlice) → length slices ≡ 0 → slices ≡ []
no-slices [] many = refl
no-slices (s ∷ slices) many = absurd (omega arith)

module _ (latest : ℕ) (old complete stay left : List TimeSlice) (p : Parting latest old complete stay left) (none : length left ≡ 0) where
  end : p.done ++ left ≡ p.done
  end = ap (λ l. p.done ++ l) (no-slices left none) ∙ append-nil p.done

  pub parting-all : IsPermutation old (complete ++ stay)
  parting-all =
      let parts = IsPermutation-trans old p.done (filter (begins_before latest) p.done ++ filter (begins_from latest) p.done) (subst (IsPermutation old) end p.same) (IsPermutation-filter_both (begins_before latest) (begins_from latest) (λ _. refl) p.done) in
      subst (λ l. IsPermutation old (l ++ stay)) (sym p.before) (subst (λ l. IsPermutation old (filter (begins_before latest) p.done ++ l)) (sym p.after) parts)

  pub parting-order : AreInOrder complete
  parting-order =
      let lt : TimeSlice → TimeSlice → Bool = λ s t. is_lt (slice_order s t) in
      subst AreInOrder (sym p.before) (IsSortedBy-filter lt (ranks_by slice_order-total (λ s. s)) (begins_before latest) p.done (subst AreInOrder end p.order))

  pub parting-before : All (λ s. s.number < latest) complete
  parting-before =
      subst (All (λ s. s.number < latest)) (sym p.before) (All-weaker (λ s. begins_before latest s ≡ true) (λ s. s.number < latest) (λ s is. grind (arith, nat_tests)) (filter (begins_before latest) p.done) (filter_passes (begins_before latest) p.done))

  pub parting-rest : All (λ s. s.number ≡ latest) stay
  parting-rest =
      let by : All (λ s. begins_by latest s ≡ true) p.done = AllPass-from_list_all (begins_by latest) p.done (ap (list_all (begins_by latest)) (sym end) ∙ p.by) in
      let kept : All (λ s. begins_by latest s ≡ true) (filter (begins_from latest) p.done) = All-filter (begins_from latest) (λ s. begins_by latest s ≡ true) p.done by in
      let from : All (λ s. begins_from latest s ≡ true) (filter (begins_from latest) p.done) = filter_passes (begins_from latest) p.done in
      subst (All (λ s. s.number ≡ latest)) (sym p.after) (λ k d inside. same-number latest (get_or (filter (begins_from latest) p.done) k d) (kept k d inside) (from k d inside))
