-- Samples by their classes: those that are at most a value, and bounds.
use Rattle.std.proofs.Common.{◌≡◌, ◌≢◌, ℕ, ◌+◌, ◌*◌, ◌/◌, ◌-◌, ◌^◌, ◌<◌, ◌≤◌, Bool, true, false, cond, leb, min, mul_comm, mul-le-mul_left, List, [], ◌∷◌, ◌++◌, length, map, refl, ap, sym, ◌∙◌, arith, inl, inr}
use Rattle.std.specs.Prelude.{◌&&◌}
use Rattle.std.specs.List.{All, count_by}
use Rattle.std.proofs.lemmas.Bool.Decides.{nat_tests}
use Rattle.std.proofs.lemmas.Bool.{cases_lt}
use Rattle.std.proofs.lemmas.List.{length-map, length-append}
use Rattle.std.proofs.lemmas.List.Elements.{All-head, All-tail, All-weaker}
use Rattle.std.proofs.lemmas.Nat.{div_below, le-div}
use Rattle.std.proofs.lemmas.List.Sums.{sum_by-cons, sum_by-append, count_by-le-length}
use Rattle.hdr_base.specs.Classes.{Resolution, lowest_of, top_of}
use Rattle.hdr_base.proofs.ClassesLaws.{lowest-le, top-of-value}
use Rattle.hdr_base.proofs.ClassesIntervals.{inside-class, lowest-first}
use Rattle.hdr_base.proofs.ClassesReach.{reach-fits}
use Rattle.hdr_base.proofs.ClassesScale.{class-end}
use Rattle.hdr_model.specs.Plain.{Plain, IsPlain, resolution, reach}
use Rattle.hdr_model.specs.Samples.{StandsFor}
use Rattle.hdr_model.proofs.PlainKept.{resolution-fits}
use Rattle.hdr_input.specs.declared.bound.Bound.{Bound}
use Rattle.hdr_input.specs.Bounds.{is_within, of_decimals}
use Rattle.hdr_summary.specs.declared.verdicts.LevelCounts.{LevelCounts}
use Rattle.hdr_summary.specs.Classes.{Known, known, known_by, lowest_in_units, greatest_in_units, count_surely, count_perhaps, AreByClass, FitUnits}

yes-le : (a b : ℕ) → a ≤ b → leb a b ≡ true
yes-le a b h = grind (arith, nat_tests)

no-le : (a b : ℕ) → b < a → leb a b ≡ false
no-le a b h = grind (arith, nat_tests)

-- One sample and one value

module _ (g : Resolution) (m : 0 < g.digits) (s most : ℕ) where
  -- a class begins at a value or below it if and only if its samples are at most the end of the value's class
  pub begins-at : leb s (top_of g most) ≡ leb (lowest_of g s) most
  begins-at =
      elim (cases_lt most (lowest_of g s)) [
        | inl below ↦ (
            let past : top_of g most < s =
            elim (cases_lt (top_of g most) s) [
              | inl lt ↦ lt
              | inr le ↦ (
                  let same = inside-class g most s m (omega (arith, lowest-le g most, lowest-le g s)) le in
                  absurd (omega (arith, same.lowest, lowest-le g most))
                  )
            ]
            in
            no-le s (top_of g most) past ∙ sym (no-le (lowest_of g s) most below)
            )
        | inr le ↦ (
            let within : s ≤ top_of g most =
            elim (cases_lt (top_of g most) s) [
              | inl lt ↦ (
                  let same = inside-class g s most m le (omega (arith, top-of-value g most, top-of-value g s)) in
                  absurd (omega (arith, same.top, top-of-value g s))
                  )
              | inr within ↦ within
            ]
            in
            yes-le s (top_of g most) within ∙ sym (yes-le (lowest_of g s) most le)
            )
      ]

  -- at the end of a class the classes that begin before it end there or before
  pub ends-whole : top_of g most ≡ most → leb (lowest_of g s) most ≡ leb (top_of g s) most
  ends-whole end =
      elim (cases_lt most (lowest_of g s)) [
        | inl below ↦ no-le (lowest_of g s) most below ∙ sym (no-le (top_of g s) most (omega (arith, lowest-le g s, top-of-value g s)))
        | inr le ↦ (
            let within : top_of g s ≤ most =
            elim (cases_lt most (top_of g s)) [
              | inl lt ↦ (
                  let same = inside-class g s most m le (omega arith) in
                  absurd (omega (arith, same.top))
                  )
              | inr within ↦ within
            ]
            in
            yes-le (lowest_of g s) most le ∙ sym (yes-le (top_of g s) most within)
            )
      ]

  -- inside a class those that end are the classes before it
  ends-before : top_of g most ≢ most → top_of g s ≤ most → lowest_of g s < lowest_of g most
  ends-before inside le =
      elim (cases_lt (lowest_of g s) (lowest_of g most)) [
        | inl lt ↦ lt
        | inr ge ↦ (
            let same = inside-class g most s m (omega (arith, lowest-le g s)) (omega (arith, top-of-value g s, top-of-value g most)) in
            absurd (inside (omega (arith, same.top, top-of-value g most)))
            )
      ]

  before-ends : lowest_of g s < lowest_of g most → top_of g s ≤ most
  before-ends lt =
      elim (cases_lt most (top_of g s)) [
        | inl past ↦ (
            let same = inside-class g s most m (omega (arith, lowest-le g most)) (omega arith) in
            absurd (omega (arith, same.lowest))
            )
        | inr le ↦ le
      ]

  pub ends-partly : (before : ℕ) → top_of g most ≢ most → 1 ≤ lowest_of g most → before ≡ lowest_of g most - 1 → leb (lowest_of g s) before ≡ leb (top_of g s) most
  ends-partly before inside some is =
      elim (cases_lt most (top_of g s)) [
        | inl past ↦ (
            let ge : before < lowest_of g s = elim (cases_lt before (lowest_of g s)) [ inl lt ↦ lt | inr le ↦ absurd (omega (arith, before-ends (omega arith))) ] in
            no-le (lowest_of g s) before ge ∙ sym (no-le (top_of g s) most past)
            )
        | inr le ↦ yes-le (lowest_of g s) before (omega (arith, ends-before inside le)) ∙ sym (yes-le (top_of g s) most le)
      ]

  pub ends-none : top_of g most ≢ most → lowest_of g most < 1 → leb (top_of g s) most ≡ false
  ends-none inside none =
      elim (cases_lt most (top_of g s)) [
        | inl past ↦ no-le (top_of g s) most past
        | inr le ↦ absurd (omega (arith, ends-before inside le))
      ]

-- Counts

abbrev one : Bool → ℕ
one b = cond b 1 0

-- equal tests count the same
pub count-same : {X : Type 0} (P : X → Type 0) (p q : X → Bool) (xs : List X) → All P xs → ((x : X) → P x → p x ≡ q x) → count_by p xs ≡ count_by q xs
count-same P p q [] all same = refl
count-same P p q (x ∷ xs) all same =
    let head : one (p x) ≡ one (q x) = ap one (same x (All-head P x xs all)) in
    omega (arith, sum_by-cons (λ y. cond (p y) 1 0) x xs, sum_by-cons (λ y. cond (q y) 1 0) x xs, head, count-same P p q xs (All-tail P x xs all) same)

pub count-all-same : {X : Type 0} (p q : X → Bool) (xs : List X) → ((x : X) → p x ≡ q x) → count_by p xs ≡ count_by q xs
count-all-same p q [] same = refl
count-all-same p q (x ∷ xs) same =
    let head : one (p x) ≡ one (q x) = ap one (same x) in
    omega (arith, sum_by-cons (λ y. cond (p y) 1 0) x xs, sum_by-cons (λ y. cond (q y) 1 0) x xs, head, count-all-same p q xs same)

pub count-map : {X Y : Type 0} (p : Y → Bool) (f : X → Y) (xs : List X) → count_by p (map f xs) ≡ count_by (λ x. p (f x)) xs
count-map p f [] = refl
count-map p f (x ∷ xs) = omega (arith, sum_by-cons (λ y. cond (p y) 1 0) (f x) (map f xs), sum_by-cons (λ y. cond (p (f y)) 1 0) x xs, count-map p f xs)

pub count-none : {X : Type 0} (p : X → Bool) (xs : List X) → ((x : X) → p x ≡ false) → count_by p xs ≡ 0
count-none p [] none = refl
count-none p (x ∷ xs) none =
    let head : one (p x) ≡ 0 = ap one (none x) in
    omega (arith, sum_by-cons (λ y. cond (p y) 1 0) x xs, head, count-none p xs none)

pub count-every : {X : Type 0} (P : X → Type 0) (p : X → Bool) (xs : List X) → All P xs → ((x : X) → P x → p x ≡ true) → count_by p xs ≡ length xs
count-every P p [] all every = refl
count-every P p (x ∷ xs) all every =
    let head : one (p x) ≡ 1 = ap one (every x (All-head P x xs all)) in
    omega (arith, sum_by-cons (λ y. cond (p y) 1 0) x xs, head, count-every P p xs (All-tail P x xs all) every)

-- a weaker test counts no fewer
pub count-weaker : {X : Type 0} (p q : X → Bool) (xs : List X) → ((x : X) → p x ≡ true → q x ≡ true) → count_by p xs ≤ count_by q xs
count-weaker p q [] weaker = omega arith
count-weaker p q (x ∷ xs) weaker =
    let head : one (p x) ≤ one (q x) = go (p x) (q x) (weaker x) in
    omega (arith, sum_by-cons (λ y. cond (p y) 1 0) x xs, sum_by-cons (λ y. cond (q y) 1 0) x xs, head, count-weaker p q xs weaker)
  where
    go : (a b : Bool) → (a ≡ true → b ≡ true) → one a ≤ one b
    go false b h = omega arith
    go true b h = let is : one b ≡ 1 = ap one (h refl) in omega (arith, is)

-- the samples whose classes begin at a value or below it, as those up to the end of the value's class
pub between-begins : (g : Resolution) (m : 0 < g.digits) (most : ℕ) (S : List ℕ)
    → count_by (λ s. leb (lowest_of g 0) s && leb s (top_of g most)) S ≡ count_by (λ s. leb (lowest_of g s) most) S
between-begins g m most S =
    count-all-same (λ s. leb (lowest_of g 0) s && leb s (top_of g most)) (λ s. leb (lowest_of g s) most) S (λ s. (
    let first : leb (lowest_of g 0) s ≡ true = yes-le (lowest_of g 0) s (omega (arith, lowest-first g)) in
    rw first (begins-at g m s most)
    ))

-- all samples are of classes that begin at a value past the reach or below it
pub past-begins : (g : Resolution) (reach most : ℕ) (S : List ℕ) → All (λ s. s ≤ reach) S → reach < most
    → count_by (λ s. leb (lowest_of g s) most) S ≡ length S
past-begins g reach most S within past =
    count-every (λ s. s ≤ reach) (λ s. leb (lowest_of g s) most) S within (λ s le. yes-le (lowest_of g s) most (omega (arith, lowest-le g s)))

-- Bounds

-- the ends of a class of a value within the reach have 64 bits
pub ends-fit : (greatest : ℕ) (h : Plain) (s : ℕ) → IsPlain greatest h → s ≤ reach h → (lowest_of (resolution h) s < 2 ^ 64) × (top_of (resolution h) s < 2 ^ 64)
unfolding reach top_of
ends-fit greatest h s p le =
    let g = resolution h in
    let fits : g.unit + g.digits ≤ 63 = resolution-fits greatest h p in
    let small : s < 2 ^ 64 = omega (arith, reach-fits g h.high p.high_fits fits) in
    (omega (arith, lowest-le g s), omega (arith, class-end g s small fits))

-- a product is at most a value if and only if the other factor is at most the quotient
product-le : (f x most : ℕ) → 0 < f → leb (f * x) most ≡ leb x (most / f)
product-le f x most some =
    elim (cases_lt most (f * x)) [
      | inl lt ↦ no-le (f * x) most lt ∙ sym (no-le x (most / f) (div_below most f x some (omega (arith, lt, mul_comm f x))))
      | inr le ↦ yes-le (f * x) most le ∙ sym (yes-le x (most / f) (le-div x most f some (omega (arith, le, mul_comm f x))))
    ]

-- the lowest values of classes fit 64 bits where the greatest ones do
lowest-fits : (f : ℕ) (g : Resolution) (s : ℕ) → f * top_of g s < 2 ^ 64 → f * lowest_of g s < 2 ^ 64
lowest-fits f g s fits = omega (arith, fits, mul-le-mul_left f (let e : lowest_of g s ≤ top_of g s = omega (arith, lowest-le g s, top-of-value g s) in e))

-- classes within the reach fit 64 bits in their own unit
pub fit-units : (f greatest : ℕ) (h : Plain) (S : List ℕ) → 0 < f → IsPlain greatest h → StandsFor h S → (f ≢ 1 → FitUnits f (resolution h) S) → FitUnits f (resolution h) S
fit-units f greatest h S some p stands fit =
    elim (cases_lt 1 f) [
      | inl lt ↦ fit (λ e. absurd (omega (arith, lt, e)))
      | inr le ↦ (
          let one : f ≡ 1 = omega (arith, le, some) in
          All-weaker (λ s. s ≤ reach h) (λ s. f * top_of (resolution h) s < 2 ^ 64) (λ s within. rw one (omega (arith, (ends-fit greatest h s p within).1))) S stands.within
          )
    ]

module _ (b : Bound) (d f : ℕ) (h : Plain) (S : List ℕ) where
  abbrev surely : ℕ → Bool
  surely s = is_within b (of_decimals d (f * top_of (resolution h) s))

  abbrev perhaps : ℕ → Bool
  perhaps s = is_within b (of_decimals d (f * lowest_of (resolution h) s))

  abbrev fits : ℕ → Type 0
  fits s = f * top_of (resolution h) s < 2 ^ 64

  known-surely : count_surely b d (known_by f (resolution h) S) ≡ count_by surely S
  known-surely = count-map (λ x. is_within b (of_decimals d (greatest_in_units x))) (known f (resolution h)) S

  known-perhaps : count_perhaps b d (known_by f (resolution h) S) ≡ count_by perhaps S
  known-perhaps = count-map (λ x. is_within b (of_decimals d (lowest_in_units x))) (known f (resolution h)) S

  -- what counts exactly fits in 64 bits
  fitting : (n : ℕ) → n ≤ length S → length S < 2 ^ 64 → n ≡ min n (2 ^ 64 - 1)
  fitting n le small = omega arith

  module _ (c : LevelCounts) (stands : StandsFor h S) (total : c.total ≡ h.total) (small : c.total < 2 ^ 64) where
    few : length S < 2 ^ 64
    few = omega (arith, stands.total)

    known-length : c.total ≡ min (length (known_by f (resolution h) S)) (2 ^ 64 - 1)
    known-length = omega (arith, few, stands.total, length-map {B = Known} S (known f (resolution h)))

    -- the counts of a bound that has a greatest value
    pub by-class : (most : ℕ) → 0 < f → FitUnits f (resolution h) S → ((v : ℕ) → v < 2 ^ 64 → is_within b (of_decimals d v) ≡ leb v most)
        → c.sure ≡ count_by (λ s. leb (top_of (resolution h) s) (most / f)) S → c.perhaps ≡ count_by (λ s. leb (lowest_of (resolution h) s) (most / f)) S
        → AreByClass c b d (known_by f (resolution h) S)
    by-class most some fit is sure perhaps_are =
        let g = resolution h in
        record {
          total = known-length;
          sure = (
              let same = count-same fits surely (λ s. leb (top_of g s) (most / f)) S fit (λ s le. is (f * top_of g s) le ∙ product-le f (top_of g s) most some) in
              omega (arith, sure, known-surely, same, few, count_by-le-length surely S)
              );
          perhaps = (
              let same = count-same fits perhaps (λ s. leb (lowest_of g s) (most / f)) S fit (λ s le. is (f * lowest_of g s) (lowest-fits f g s le) ∙ product-le f (lowest_of g s) most some) in
              omega (arith, perhaps_are, known-perhaps, same, few, count_by-le-length perhaps S)
              );
        }

    -- the counts of a bound within which nothing is
    pub by-class-none : ((v : ℕ) → is_within b (of_decimals d v) ≡ false) → c.sure ≡ 0 → c.perhaps ≡ 0 → AreByClass c b d (known_by f (resolution h) S)
    by-class-none is sure perhaps_are = record {
      total = known-length;
      sure = omega (arith, sure, known-surely, count-none surely S (λ s. is (f * top_of (resolution h) s)));
      perhaps = omega (arith, perhaps_are, known-perhaps, count-none perhaps S (λ s. is (f * lowest_of (resolution h) s)));
    }

-- the counts of samples and others together
pub by-class-joined : (b : Bound) (d : ℕ) (K L : List Known) (c k new : LevelCounts) → AreByClass c b d K → AreByClass k b d L
    → new.total ≡ min (c.total + k.total) (2 ^ 64 - 1) → new.sure ≡ min (c.sure + k.sure) (2 ^ 64 - 1) → new.perhaps ≡ min (c.perhaps + k.perhaps) (2 ^ 64 - 1)
    → AreByClass new b d (K ++ L)
by-class-joined b d K L c k new old added total sure perhaps_are = record {
  total = omega (arith, total, old.total, added.total, length-append K L);
  sure = omega (arith, sure, old.sure, added.sure, sum_by-append (λ x. cond (is_within b (of_decimals d (greatest_in_units x))) 1 0) K L);
  perhaps = omega (arith, perhaps_are, old.perhaps, added.perhaps, sum_by-append (λ x. cond (is_within b (of_decimals d (lowest_in_units x))) 1 0) K L);
}
