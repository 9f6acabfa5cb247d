-- Samples that are rounded to the greatest values of their classes.
use Rattle.std.proofs.Common.{◌≡◌, ℕ, ◌+◌, ◌-◌, ◌^◌, ◌<◌, ◌≤◌, ◌==◌, Bool, true, false, cond, leb, List, [], ◌∷◌, ◌++◌, length, map, get_or, refl, sym, ap, subst, ◌∙◌, arith, inl, inr, length-append}
use Rattle.std.specs.List.{All}
use Rattle.std.proofs.lemmas.Bool.Decides.{nat_tests}
use Rattle.std.proofs.lemmas.Bool.{cases_lt}
use Rattle.std.proofs.lemmas.List.{get_or-map, map-append, length-map}
use Rattle.std.proofs.lemmas.List.Sums.{count_by-le-length}
use Rattle.std.proofs.lemmas.List.Elements.{All-head}
use Rattle.hdr_base.specs.Fractions.{Ratio}
use Rattle.hdr_base.specs.Classes.{Resolution, top_of, bin_of, IsFiner, resolution_of}
use Rattle.hdr_base.proofs.ClassesLaws.{lowest-le, top-of-value}
use Rattle.hdr_base.proofs.ClassesDigits.{digits-pos-of}
use Rattle.hdr_base.proofs.ClassesIntervals.{inside-class}
use Rattle.hdr_model.specs.Plain.{Plain, resolution, empty_plain}
use Rattle.hdr_model.specs.Samples.{StandsFor, Fits, GainsSamples, in_class}
use Rattle.hdr_model.specs.Recording.{after_reset}
use Rattle.hdr_model.specs.Quantiles.{put_in_order, sorted, rank, ranked_sample}
use Rattle.hdr_model.proofs.QuantilesOrder.{Ascends, sorted-Ascends, sorted-length}
use Rattle.hdr_model.proofs.QuantilesValues.{rank-bound, rank-pos}
use Rattle.hdr_verdict.specs.declared.width.Width.{Width}
use Rattle.hdr_verdict.specs.Samples.{Rounds, classes_of, rounded}

-- a greater value has no lesser top
pub top-rises : (g : Resolution) (a b : ℕ) → 0 < g.digits → a ≤ b → top_of g a ≤ top_of g b
top-rises g a b m le = elim (cases_lt (top_of g a) b) [
  | inl lt ↦ omega (arith, top-of-value g b)
  | inr ge ↦ omega (arith, (inside-class g a b m (omega (arith, lowest-le g a)) ge).top)
]

abbrev pub Ascending : (ℕ → ℕ) → Type 0
Ascending f = (a b : ℕ) → a ≤ b → f a ≤ f b

put-first : (x : ℕ) (ys : List ℕ) → All (λ y. x ≤ y) ys → put_in_order x ys ≡ x ∷ ys
put-first x [] all = refl
put-first x (y ∷ ys) all =
    let yes : leb x y ≡ true = (let h : x ≤ y = All-head (λ y. x ≤ y) y ys all in grind (arith, nat_tests)) in
    ap {B = List ℕ} (λ (b : Bool). cond b (x ∷ y ∷ ys) (y ∷ put_in_order x ys)) yes

map-all : (f : ℕ → ℕ) (x : ℕ) (ys : List ℕ) → Ascending f → All (λ y. x ≤ y) ys → All (λ y. f x ≤ y) (map f ys)
map-all f x ys up all = λ k d inside.
    let within : k < length ys = omega (arith, inside, length-map ys f) in
    let one : x ≤ get_or ys k 0 = all k 0 within in
    subst (λ v. f x ≤ v) (sym (get_or-map f ys k 0 d within)) (up x (get_or ys k 0) one)

leb-from : (a b : ℕ) → leb a b ≡ true → a ≤ b
leb-from a b h = grind (arith, nat_tests)

leb-not : (a b : ℕ) → leb a b ≡ false → b < a
leb-not a b h = grind (arith, nat_tests)

put-both : (f : ℕ → ℕ) (x y : ℕ) (ys : List ℕ) (c : Bool) → f x ≤ f y → leb (f x) (f y) ≡ c → cond c (f x ∷ f y ∷ map f ys) (f y ∷ put_in_order (f x) (map f ys)) ≡ f x ∷ f y ∷ map f ys
put-both f x y ys true le is = refl
put-both f x y ys false le is = absurd (let gt = leb-not (f x) (f y) is in omega arith)

-- an equal number goes first
put-equal : (f : ℕ → ℕ) (x y : ℕ) (ys : List ℕ) → Ascending f → All (λ z. y ≤ z) ys → f x ≡ f y → put_in_order (f x) (map f ys) ≡ f x ∷ map f ys
put-equal f x y ys up all same = put-first (f x) (map f ys) (subst (λ v. All (λ z. v ≤ z) (map f ys)) (sym same) (map-all f y ys up all))

put-behind : (f : ℕ → ℕ) (x y : ℕ) (ys : List ℕ) (c : Bool) → Ascending f → Ascends (y ∷ ys) → put_in_order (f x) (map f ys) ≡ map f (put_in_order x ys) → y < x → leb (f x) (f y) ≡ c
    → cond c (f x ∷ f y ∷ map f ys) (f y ∷ put_in_order (f x) (map f ys)) ≡ f y ∷ map f (put_in_order x ys)
put-behind f x y ys false up a rest gt is = ap (λ l. f y ∷ l) rest
put-behind f x y ys true up a rest gt is =
    let le : f x ≤ f y = leb-from (f x) (f y) is in
    let ge : f y ≤ f x = up y x (omega arith) in
    let same : f x ≡ f y = omega arith in
    ap (λ v. v ∷ f y ∷ map f ys) same ∙ ap (λ l. f y ∷ l) (ap (λ v. v ∷ map f ys) (sym same) ∙ sym (put-equal f x y ys up a.0 same) ∙ rest)

put-map : (f : ℕ → ℕ) (x : ℕ) (ys : List ℕ) → Ascending f → Ascends ys → put_in_order (f x) (map f ys) ≡ map f (put_in_order x ys)
put-map f x [] up a = refl
put-map f x (y ∷ ys) up a =
    let step : (b c : Bool) → leb x y ≡ b → leb (f x) (f y) ≡ c → cond c (f x ∷ f y ∷ map f ys) (f y ∷ put_in_order (f x) (map f ys)) ≡ map f (cond b (x ∷ y ∷ ys) (y ∷ put_in_order x ys)) =
    λ b c. elim b as (λ b. leb x y ≡ b → leb (f x) (f y) ≡ c → cond c (f x ∷ f y ∷ map f ys) (f y ∷ put_in_order (f x) (map f ys)) ≡ map f (cond b (x ∷ y ∷ ys) (y ∷ put_in_order x ys))) [
      | true ↦ λ first second. put-both f x y ys c (up x y (leb-from x y first)) second
      | false ↦ λ first second. put-behind f x y ys c up a (put-map f x ys up a.1) (leb-not x y first) second
    ] in
    step (leb x y) (leb (f x) (f y)) refl refl

sorted-map : (f : ℕ → ℕ) (S : List ℕ) → Ascending f → sorted (map f S) ≡ map f (sorted S)
sorted-map f [] up = refl
sorted-map f (x ∷ S) up = ap (put_in_order (f x)) (sorted-map f S up) ∙ put-map f x (sorted S) up (sorted-Ascends S)

-- the sample at a quantile, of samples that are rounded
pub ranked-map : (f : ℕ → ℕ) (q : Ratio) (S : List ℕ) → Ascending f → 0 < q.den → 0 < length S → ranked_sample q (map f S) ≡ f (ranked_sample q S)
unfolding ranked_sample
ranked-map f q S up proper some =
    let i = rank q (length S) - 1 in
    let inside : i < length (sorted S) = omega (arith, rank-bound q (length S) proper some, rank-pos q (length S), sorted-length S) in
    ap (λ n. get_or (sorted (map f S)) (rank q n - 1) 0) (length-map S f) ∙ ap (λ l. get_or l i 0) (sorted-map f S up) ∙ get_or-map f (sorted S) i 0 0 inside

pub tops-rise : (width : Width) → Ascending (top_of (classes_of width))
tops-rise width a b le = top-rises (classes_of width) a b (digits-pos-of width.low width.sigfig) le

pub value-rounds : (width : Width) (h : Plain) (q : Ratio) (S : List ℕ) (value : ℕ) → (r : Rounds width h S) → resolution h ≡ classes_of width → 0 < q.den → 0 < h.total
    → value ≡ top_of (resolution h) (ranked_sample q r.exact) → value ≡ ranked_sample q S
value-rounds width h q S value r same proper some is =
    let some-samples : 0 < length r.exact = omega (arith, r.stands.total, some) in
    is ∙ ap (λ g. top_of g (ranked_sample q r.exact)) same ∙ sym (ranked-map (top_of (classes_of width)) q r.exact (tops-rise width) proper some-samples) ∙ ap (ranked_sample q) (sym r.is)

pub total-rounds : (width : Width) (h : Plain) (S : List ℕ) → Rounds width h S → h.total ≡ length S
total-rounds width h S r = r.stands.total ∙ sym (ap length r.is ∙ length-map r.exact (top_of (classes_of width)))

pub in-class-most : (g : Resolution) (i : ℕ) (S : List ℕ) → in_class g i S ≤ length S
in-class-most g i S = count_by-le-length (λ s. bin_of g s == i) S

ranked-none : (q : Ratio) → ranked_sample q [] ≡ 0
unfolding ranked_sample
ranked-none q = refl

pub none-rounds : (width : Width) (h : Plain) (q : Ratio) (S : List ℕ) → Rounds width h S → h.total ≡ 0 → 0 ≡ ranked_sample q S
none-rounds width h q [] r none = sym (ranked-none q)
none-rounds width h q (x ∷ S) r none = absurd (omega (arith, total-rounds width h (x ∷ S) r, none))

-- a new histogram, which grows, stands for no samples
pub empty-classes : (low high sigfig : ℕ) (auto : Bool) → resolution (record (empty_plain low high sigfig false) { auto_resize = auto }) ≡ resolution_of low sigfig
unfolding empty_plain
empty-classes low high sigfig auto = refl

pub empty-rounds : (width : Width) (high : ℕ) (h : Plain) → h ≡ record (empty_plain width.low high width.sigfig false) { auto_resize = true } → StandsFor (empty_plain width.low high width.sigfig true) [] → Rounds width h []
unfolding empty_plain
empty-rounds width high h is stands = subst (λ k. Rounds width k []) (sym is) (record { finer = record { unit = omega arith; digits = omega arith }; exact = []; stands = stands; is = refl })

-- a histogram that was reset stands for no samples
pub reset-classes : (h : Plain) → resolution (after_reset h) ≡ resolution h
unfolding after_reset
reset-classes h = refl

pub reset-rounds : (width : Width) (h new : Plain) → new ≡ after_reset h → resolution h ≡ classes_of width → StandsFor (after_reset h) [] → Rounds width new []
reset-rounds width h new is same stands = subst (λ k. Rounds width k []) (sym is) (record {
  finer = subst (λ g. IsFiner g (classes_of width)) (sym (reset-classes h ∙ same)) (record { unit = omega arith; digits = omega arith });
  exact = [];
  stands = stands;
  is = refl;
})
