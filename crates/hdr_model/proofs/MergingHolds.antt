-- What the classes of another histogram hold of a class, one more at a time.
use Rattle.std.proofs.Common.{◌≡◌, ◌≢◌, ◌⊎◌, ℕ, zero, suc, ◌+◌, ◌-◌, ◌<◌, ◌≤◌, List, [], ◌∷◌, ◌++◌, length, get_or, take, drop, replicate, refl, sym, ap, subst, ◌∙◌, arith, inl, inr, set, sum}
use Rattle.std.proofs.lemmas.Bool.{cases_lt, cases_eq}
use Rattle.std.proofs.lemmas.List.{get_or_past, get_or-set_same, get_or-set_other, append-nil, take_more, take_all, length-take-le, take-append-drop}
use Rattle.hdr_base.specs.Classes.{Resolution, bin_of, value_of}
use Rattle.hdr_base.proofs.ClassesLaws.{bin-mono}
use Rattle.hdr_base.proofs.ClassesFiner.{bin-value_of}
use Rattle.hdr_model.specs.Samples.{in_class}
use Rattle.hdr_model.specs.Recording.{Times, samples_of}
use Rattle.hdr_model.specs.Merging.{classes_from}
use Rattle.hdr_model.proofs.RecordingStands.{in_class-same, in_class-other}
use Rattle.hdr_model.proofs.MergingStands.{spread-append, in_class-append}
use Rattle.hdr_model.proofs.MergingKeeps.{classes-more-some, classes-more-none, past-zeros}

-- how much the first i classes hold of class j of g
pub held : Resolution → Resolution → List ℕ → ℕ → ℕ → ℕ
held g f ns i j = in_class g j (samples_of (classes_from f 0 (take i ns)))

pub held-all : (g f : Resolution) (ns : List ℕ) (i j : ℕ) → length ns ≤ i → held g f ns i j ≡ in_class g j (samples_of (classes_from f 0 ns))
unfolding held
held-all g f ns i j le = ap (λ l. in_class g j (samples_of (classes_from f 0 l))) (take_all i ns le)

pub held-none : (g f : Resolution) (ns : List ℕ) (j : ℕ) → held g f ns 0 j ≡ 0
unfolding held
held-none g f ns j = refl

pub held-past : (g f : Resolution) (ns : List ℕ) (a b j : ℕ) → a ≤ b → ((i : ℕ) → a ≤ i → i < b → get_or ns i 0 ≡ 0) → held g f ns b j ≡ held g f ns a j
unfolding held
held-past g f ns a b j le none =
    past-zeros (λ l. in_class g j (samples_of (classes_from f 0 l))) (λ l. ap (λ ts. in_class g j (samples_of ts)) (classes-more-none f 0 l)) ns a b le none

pub held-next : (g f : Resolution) (ns : List ℕ) (i j : ℕ) → i < length ns → 0 < get_or ns i 0
    → held g f ns (i + 1) j ≡ in_class g j (samples_of (classes_from f 0 (take i ns)) ++ replicate (get_or ns i 0) (value_of f i))
unfolding held
held-next g f ns i j lt pos =
    let n = get_or ns i 0 in
    let last : Times = record { value = value_of f i; times = n } in
    let place : 0 + length (take i ns) ≡ i = omega (arith, length-take-le i ns (omega arith)) in
    let classes : classes_from f 0 (take (i + 1) ns) ≡ classes_from f 0 (take i ns) ++ last ∷ [] =
    ap (λ l. classes_from f 0 l) (take_more ns i 0 lt) ∙ classes-more-some f 0 n (take i ns) pos ∙ ap (λ k. classes_from f 0 (take i ns) ++ record { value = value_of f k; times = n } ∷ []) place in
    ap (λ ts. in_class g j (samples_of ts)) classes
    ∙ ap (λ l. in_class g j l) (spread-append (classes_from f 0 (take i ns)) (last ∷ []) ∙ ap (λ l. samples_of (classes_from f 0 (take i ns)) ++ l) (append-nil (replicate n (value_of f i))))

pub held-here : (g f : Resolution) (ns : List ℕ) (i : ℕ) → i < length ns → 0 < get_or ns i 0
    → held g f ns (i + 1) (bin_of g (value_of f i)) ≡ held g f ns i (bin_of g (value_of f i)) + get_or ns i 0
unfolding held
held-here g f ns i lt pos = held-next g f ns i (bin_of g (value_of f i)) lt pos ∙ in_class-same g (value_of f i) (get_or ns i 0) (samples_of (classes_from f 0 (take i ns)))

pub held-other : (g f : Resolution) (ns : List ℕ) (i j : ℕ) → i < length ns → 0 < get_or ns i 0 → bin_of g (value_of f i) ≢ j
    → held g f ns (i + 1) j ≡ held g f ns i j
unfolding held
held-other g f ns i j lt pos other = held-next g f ns i j lt pos ∙ in_class-other g j (value_of f i) (get_or ns i 0) (samples_of (classes_from f 0 (take i ns))) other

-- more classes hold no less
classes-append : (f : Resolution) (k : ℕ) (ms ns : List ℕ) → classes_from f k (ms ++ ns) ≡ classes_from f k ms ++ classes_from f (k + length ms) ns
classes-append f k [] ns = ap (λ i. classes_from f i ns) (let e : k ≡ k + 0 = omega arith in e)
classes-append f k (zero ∷ ms) ns = classes-append f (suc k) ms ns ∙ ap (λ i. classes_from f (suc k) ms ++ classes_from f i ns) (let e : suc k + length ms ≡ k + suc (length ms) = omega arith in e)
classes-append f k (suc m ∷ ms) ns =
    ap (λ ts. record { value = value_of f k; times = suc m } ∷ ts)
    (classes-append f (suc k) ms ns ∙ ap (λ i. classes_from f (suc k) ms ++ classes_from f i ns) (let e : suc k + length ms ≡ k + suc (length ms) = omega arith in e))

pub held-le : (g f : Resolution) (ns : List ℕ) (i j : ℕ) → held g f ns i j ≤ in_class g j (samples_of (classes_from f 0 ns))
unfolding held
held-le g f ns i j =
    let whole : take i ns ++ drop i ns ≡ ns = take-append-drop i ns in
    let a = classes_from f 0 (take i ns) in
    let b = classes_from f (0 + length (take i ns)) (drop i ns) in
    let parts : in_class g j (samples_of (classes_from f 0 ns)) ≡ in_class g j (samples_of a) + in_class g j (samples_of b) =
    ap (λ l. in_class g j (samples_of (classes_from f 0 l))) (sym whole) ∙ ap (λ ts. in_class g j (samples_of ts)) (classes-append f 0 (take i ns) (drop i ns))
    ∙ ap (λ l. in_class g j l) (spread-append a b) ∙ in_class-append g j (samples_of a) (samples_of b) in
    omega (arith, parts)

-- later classes start at greater values
pub value_of-mono : (f : Resolution) (i k : ℕ) → 0 < f.digits → i ≤ k → value_of f i ≤ value_of f k
value_of-mono f i k m le = elim (cases_lt (value_of f k) (value_of f i)) [
  | inl lt ↦ (
      let b = bin-mono f (value_of f k) (value_of f i) m (omega arith) in
      let same : i ≡ k = omega (arith, bin-value_of f i m, bin-value_of f k m) in
      omega (arith, ap (λ j. value_of f j) same)
      )
  | inr ge ↦ ge
]

-- what the test of one class leaves known
pub record IsTested (g f : Resolution) (counts ns : List ℕ) (i at sum : ℕ) : Type 0 where
  pub tested : (j : ℕ) → held g f ns i j ≤ get_or counts j 0
  pub running : sum ≡ held g f ns i at
  pub later : (j : ℕ) → at < j → held g f ns i j ≡ 0
  pub order : (k : ℕ) → i ≤ k → at ≤ bin_of g (value_of f k)

pub tested-init : (g f : Resolution) (counts ns : List ℕ) → IsTested g f counts ns 0 0 0
tested-init g f counts ns = record {
  tested = λ j. omega (arith, held-none g f ns j);
  running = sym (held-none g f ns 0);
  later = λ j lt. held-none g f ns j;
  order = λ k le. omega arith;
}

pub tested-past : (g f : Resolution) (counts ns : List ℕ) (a b at sum : ℕ) → a ≤ b → ((i : ℕ) → a ≤ i → i < b → get_or ns i 0 ≡ 0)
    → IsTested g f counts ns a at sum → IsTested g f counts ns b at sum
tested-past g f counts ns a b at sum le none t = record {
  tested = λ j. omega (arith, held-past g f ns a b j le none, t.tested j);
  running = omega (arith, held-past g f ns a b at le none, t.running);
  later = λ j past. omega (arith, held-past g f ns a b j le none, t.later j past);
  order = λ k ge. t.order k (omega (arith, le, ge));
}

module _ (g f : Resolution) (counts ns : List ℕ) (i at sum before target : ℕ) (mf : 0 < f.digits) (mg : 0 < g.digits) (lt : i < length ns) (pos : 0 < get_or ns i 0) (t : IsTested g f counts ns i at sum)
    (here : target ≡ bin_of g (value_of f i)) (from : ((target ≡ at) × (before ≡ sum)) ⊎ ((target ≢ at) × (before ≡ 0))) where
  pub tested-sum : before + get_or ns i 0 ≡ held g f ns (i + 1) target
  tested-sum =
      let now : held g f ns (i + 1) target ≡ held g f ns i target + get_or ns i 0 = subst (λ b. held g f ns (i + 1) b ≡ held g f ns i b + get_or ns i 0) (sym here) (held-here g f ns i lt pos) in
      let ascends = t.order i (omega arith) in
      elim from [
        | inl e ↦ omega (arith, now, e.1, t.running, ap (λ b. held g f ns i b) e.0)
        | inr n ↦ omega (arith, now, n.1, t.later target (omega (arith, n.0)))
      ]

  pub tested-next : before + get_or ns i 0 ≤ get_or counts target 0 → IsTested g f counts ns (i + 1) target (before + get_or ns i 0)
  tested-next fits =
      let ascends = t.order i (omega arith) in
      let away : (j : ℕ) → target ≢ j → held g f ns (i + 1) j ≡ held g f ns i j = λ j n. held-other g f ns i j lt pos (λ e. n (here ∙ e)) in
      record {
        tested = λ j. elim (cases_eq target j) [
          | inl e ↦ omega (arith, tested-sum, ap (λ b. held g f ns (i + 1) b) e, ap (λ b. get_or counts b 0) e)
          | inr n ↦ omega (arith, away j n, t.tested j)
        ];
        running = tested-sum;
        later = λ j past. omega (arith, away j (λ e. omega arith), t.later j (omega arith));
        order = λ k le. omega (arith, bin-mono g (value_of f i) (value_of f k) mg (value_of-mono f i k mf (omega arith)));
      }

-- the index of a number above 0 is an index of the list
pub place-in : (counts : List ℕ) (i : ℕ) → 0 < get_or counts i 0 → i < length counts
place-in counts i pos = elim (cases_lt i (length counts)) [ inl lt ↦ lt | inr ge ↦ absurd (omega (arith, get_or_past counts i 0 ge)) ]

-- the bin of a class has what the class holds
pub enough-left : (g f : Resolution) (ns was now : List ℕ) (i target : ℕ) → i < length ns → 0 < get_or ns i 0 → target ≡ bin_of g (value_of f i)
    → ((j : ℕ) → in_class g j (samples_of (classes_from f 0 ns)) ≤ get_or was j 0) → ((j : ℕ) → get_or now j 0 + held g f ns i j ≡ get_or was j 0)
    → (target < length now) × (get_or ns i 0 ≤ get_or now target 0)
enough-left g f ns was now i target lt pos here all taken =
    let step : held g f ns (i + 1) target ≡ held g f ns i target + get_or ns i 0 = subst (λ b. held g f ns (i + 1) b ≡ held g f ns i b + get_or ns i 0) (sym here) (held-here g f ns i lt pos) in
    let enough : get_or ns i 0 ≤ get_or now target 0 = omega (arith, step, held-le g f ns (i + 1) target, all target, taken target) in
    (place-in now target (omega (arith, enough, pos)), enough)

-- one class taken out
pub taken-next : (g f : Resolution) (ns was now : List ℕ) (i target : ℕ) → i < length ns → 0 < get_or ns i 0 → target ≡ bin_of g (value_of f i) → target < length now → get_or ns i 0 ≤ get_or now target 0
    → ((j : ℕ) → get_or now j 0 + held g f ns i j ≡ get_or was j 0)
    → (j : ℕ) → get_or (set now target (get_or now target 0 - get_or ns i 0)) j 0 + held g f ns (i + 1) j ≡ get_or was j 0
taken-next g f ns was now i target lt pos here inside enough taken j =
    let step : held g f ns (i + 1) target ≡ held g f ns i target + get_or ns i 0 = subst (λ b. held g f ns (i + 1) b ≡ held g f ns i b + get_or ns i 0) (sym here) (held-here g f ns i lt pos) in
    let put = get_or now target 0 - get_or ns i 0 in
    elim (cases_eq target j) [
      | inl e ↦ subst (λ k. get_or (set now target put) k 0 + held g f ns (i + 1) k ≡ get_or was k 0) e (omega (arith, step, taken target, get_or-set_same now target put 0 inside))
      | inr n ↦ omega (arith, get_or-set_other now target j put 0 (λ e. n (sym e)), held-other g f ns i j lt pos (λ e. n (here ∙ e)), taken j)
    ]
