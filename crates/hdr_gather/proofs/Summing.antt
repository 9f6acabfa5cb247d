-- Sums of one field more.
use Rattle.std.proofs.Common.{◌≡◌, ℕ, suc, ◌-◌, ◌^◌, ◌<◌, List, [], ◌∷◌, ◌++◌, length, length-append, refl, sym, ap, subst, ◌∙◌, arith, map, take, get_or, ◌+◌}
use Rattle.std.specs.List.{All, AllZip, Any}
use Rattle.std.proofs.lemmas.List.{append_assoc, append-nil, get_or-map, get_or_append_left, get_or_default, length-map, map_more, map-append}
use Rattle.std.proofs.lemmas.List.Elements.{All-nil, All-cons, All-append, All-head, All-tail, All-weaker}
use Rattle.std.proofs.lemmas.List.Quantifiers.{Any-push}
use Rattle.hdr_base.specs.Classes.{IsFiner, Resolution}
use Rattle.hdr_model.specs.Plain.{Plain, resolution, reach}
use Rattle.hdr_model.specs.Samples.{StandsFor}
use Rattle.hdr_model.specs.Joining.{joined_samples}
use Rattle.hdrhistogram.specs.FieldRead.{IsHeldIn}
use Rattle.hdr_gather.specs.Counts.{one_if_finer, finer_of, AreCounts}
use Rattle.hdr_gather.specs.Sums.{AreCoarsest, IsJoined, IsGrowing, IsSum, StandsForAll, SumsFields}
use Rattle.hdr_gather.specs.declared.sum.IntervalSum.{IntervalSum}
use Rattle.hdr_gather.proofs.Counting.{finer_push, none_finer, all_finer, growing, finer_growing}

-- growing does not change the samples
pub stands_growing : (h : Plain) (S : List ℕ) → StandsFor h S → StandsFor (growing h) S
unfolding reach
stands_growing h S s = record { numbers = s.numbers; within = s.within; total = s.total }

-- samples of histograms of which one is the last
pub record IsLast (hs : List Plain) (h : Plain) (Ls : List (List ℕ)) : Type 0 where
  pub front : List (List ℕ)
  pub last : List ℕ
  pub fronts : AllZip StandsFor hs front
  pub lasts : StandsFor h last
  pub joined : joined_samples Ls ≡ joined_samples front ++ last

pub last_of : (hs : List Plain) (h : Plain) (Ls : List (List ℕ)) → AllZip StandsFor (hs ++ h ∷ []) Ls → IsLast hs h Ls
last_of [] h [] z = absurd z
last_of [] h (L ∷ []) z = record { front = []; last = L; fronts = tt; lasts = z.0; joined = append-nil L }
last_of [] h (L ∷ M ∷ Ls) z = absurd z.1
last_of (k ∷ hs) h [] z = absurd z
last_of (k ∷ hs) h (L ∷ Ls) z =
    let rest = last_of hs h Ls z.1 in
    record {
      front = L ∷ rest.front;
      last = rest.last;
      fronts = (z.0, rest.fronts);
      lasts = rest.lasts;
      joined = ap (λ l. L ++ l) rest.joined ∙ sym (append_assoc L (joined_samples rest.front) rest.last);
    }

-- one histogram
pub samples_of_one : (h : Plain) → StandsForAll (h ∷ []) h
samples_of_one h Ls z few =
    let one = last_of [] h Ls z in
    let alone : joined_samples Ls ≡ one.last = one.joined ∙ front_is_none one.front one.fronts one.last in
    subst (StandsFor h) (sym alone) one.lasts
  where
    front_is_none : (front : List (List ℕ)) → AllZip StandsFor [] front → (last : List ℕ) → joined_samples front ++ last ≡ last
    front_is_none [] z last = refl
    front_is_none (L ∷ front) z last = absurd z

-- one histogram more
samples_push : (hs : List Plain) (sum h new : Plain) → StandsForAll hs sum → IsJoined sum h new → StandsForAll (hs ++ h ∷ []) new
samples_push hs sum h new so_far join Ls z few =
    let one = last_of hs h Ls z in
    let all : length (joined_samples one.front ++ one.last) < 2 ^ 64 = subst (λ S. length S < 2 ^ 64) one.joined few in
    let before : length (joined_samples one.front) < 2 ^ 64 = omega (arith, all, length-append (joined_samples one.front) one.last) in
    subst (StandsFor new) (sym one.joined) (join (joined_samples one.front) one.last (so_far one.front one.fronts before) one.lasts all)

-- what is so of one of the first is so of one of all
any_front : (P : Plain → Type 0) (hs : List Plain) (h : Plain) → Any P hs → Any P (hs ++ h ∷ [])
any_front P hs h one =
    (one.0, one.1, omega (arith, one.2, length-append hs (h ∷ [])), get_or_append_left hs (h ∷ []) one.1 one.0 one.2 ∙ one.3, one.4)

-- one histogram more, whose classes lie in those of the sum
pub sum_finer : (hs : List Plain) (h : Plain) (s t : IntervalSum) → IsSum hs s → resolution t.histogram ≡ resolution s.histogram → IsFiner (resolution h) (resolution s.histogram) → IsJoined s.histogram h t.histogram
    → AreCounts t.counts (s.counts.intervals + 1) (s.counts.finer + one_if_finer (resolution s.histogram) h) → IsSum (hs ++ h ∷ []) t
sum_finer hs h s t sum same fine join counts =
    let g = resolution s.histogram in
    let all : All (λ k. IsFiner (resolution k) g) (hs ++ h ∷ []) = All-append (λ k. IsFiner (resolution k) g) hs (h ∷ []) sum.classes.nested (All-cons (λ k. IsFiner (resolution k) g) h [] fine (All-nil (λ k. IsFiner (resolution k) g))) in
    let many : length (hs ++ h ∷ []) ≡ length hs + 1 = length-append hs (h ∷ []) in
    let finer : finer_of g (hs ++ h ∷ []) ≡ finer_of g hs + one_if_finer g h = finer_push g hs h in
    let counted : AreCounts t.counts (length (hs ++ h ∷ [])) (finer_of g (hs ++ h ∷ [])) = (omega (arith, many, counts.0, sum.counts.0), omega (arith, finer, counts.1, sum.counts.1)) in
    record {
      classes = subst (AreCoarsest (hs ++ h ∷ [])) (sym same) (record { nested = all; one = any_front (λ k. resolution k ≡ g) hs h sum.classes.one });
      counts = subst (λ r. AreCounts t.counts (length (hs ++ h ∷ [])) (finer_of r (hs ++ h ∷ []))) (sym same) counted;
      samples = samples_push hs s.histogram h t.histogram sum.samples join;
    }

-- one histogram more, which is coarser than the sum before
pub sum_coarser : (hs : List Plain) (h : Plain) (s t : IntervalSum) → IsSum hs s → resolution t.histogram ≡ resolution h → (IsFiner (resolution h) (resolution s.histogram) → ⊥)
    → IsFiner (resolution s.histogram) (resolution h) → IsJoined s.histogram h t.histogram → AreCounts t.counts (s.counts.intervals + 1) (s.counts.intervals + 0)
    → IsSum (hs ++ h ∷ []) t
sum_coarser hs h s t sum same coarser fine join counts =
    let g = resolution h in
    let reflexive : IsFiner g g = record { unit = omega arith; digits = omega arith } in
    let step : (k : Plain) → IsFiner (resolution k) (resolution s.histogram) → IsFiner (resolution k) g = λ k f. record { unit = omega (arith, f.unit, fine.unit); digits = omega (arith, f.digits, fine.digits) } in
    let before : All (λ k. IsFiner (resolution k) g) hs = All-weaker (λ k. IsFiner (resolution k) (resolution s.histogram)) (λ k. IsFiner (resolution k) g) step hs sum.classes.nested in
    let all : All (λ k. IsFiner (resolution k) g) (hs ++ h ∷ []) = All-append (λ k. IsFiner (resolution k) g) hs (h ∷ []) before (All-cons (λ k. IsFiner (resolution k) g) h [] reflexive (All-nil (λ k. IsFiner (resolution k) g))) in
    let many : length (hs ++ h ∷ []) ≡ length hs + 1 = length-append hs (h ∷ []) in
    let count : finer_of g (hs ++ h ∷ []) ≡ length hs = omega (arith, finer_push g hs h, none_finer g h reflexive, all_finer (resolution s.histogram) g hs sum.classes.nested coarser) in
    let counted : AreCounts t.counts (length (hs ++ h ∷ [])) (finer_of g (hs ++ h ∷ [])) = (omega (arith, many, counts.0, sum.counts.0), omega (arith, count, counts.1, sum.counts.0)) in
    record {
      classes = subst (AreCoarsest (hs ++ h ∷ [])) (sym same) (record { nested = all; one = Any-push (λ k. resolution k ≡ g) hs h refl });
      counts = subst (λ r. AreCounts t.counts (length (hs ++ h ∷ [])) (finer_of r (hs ++ h ∷ []))) (sym same) counted;
      samples = samples_push hs s.histogram h t.histogram sum.samples join;
    }

-- the sum of the histograms that fields hold, each of which grows
pub record SumsSoFar (fields : List (List ℕ)) (sum : IntervalSum) : Type 0 where
  pub held : List Plain
  pub fields_hold : AllZip (IsHeldIn (2 ^ 64 - 1)) fields held
  pub is_sum : IsSum (map growing held) sum

-- the first field
pub sum_of_one : (field : List ℕ) (h : Plain) (sum : IntervalSum) → IsGrowing field h → IsSum (h ∷ []) sum → SumsSoFar (field ∷ []) sum
sum_of_one field h sum grown is = record {
  held = grown.0 ∷ [];
  fields_hold = (grown.1, tt);
  is_sum = subst (λ k. IsSum (k ∷ []) sum) grown.2 is;
}

held_push : (fields : List (List ℕ)) (hs : List Plain) (field : List ℕ) (h : Plain) → AllZip (IsHeldIn (2 ^ 64 - 1)) fields hs → IsHeldIn (2 ^ 64 - 1) field h → AllZip (IsHeldIn (2 ^ 64 - 1)) (fields ++ field ∷ []) (hs ++ h ∷ [])
held_push [] [] field h z last = (last, tt)
held_push [] (k ∷ hs) field h z last = absurd z
held_push (f ∷ fields) [] field h z last = absurd z
held_push (f ∷ fields) (k ∷ hs) field h z last = (z.0, held_push fields hs field h z.1 last)

-- the field of one item more
pub sum_of_next : {X : Type 0} (f : X → List ℕ) (first : List ℕ) (xs : List X) (i : ℕ) (x : X) (h : Plain) (sum new : IntervalSum) → i < length xs → x ≡ get_or xs i x → SumsSoFar (first ∷ map f (take i xs)) sum
    → IsGrowing (f x) h → ((hs : List Plain) → IsSum hs sum → IsSum (hs ++ h ∷ []) new) → SumsSoFar (first ∷ map f (take (i + 1) xs)) new
sum_of_next f first xs i x h sum new lt is so_far grown push =
    let more : map f (take (i + 1) xs) ≡ map f (take i xs) ++ f x ∷ [] = map_more f xs i x lt ∙ ap (λ y. map f (take i xs) ++ f y ∷ []) (sym is) in
    let fields : List (List ℕ) = first ∷ map f (take i xs) in
    let all : map growing so_far.held ++ h ∷ [] ≡ map growing (so_far.held ++ grown.0 ∷ []) = ap (λ k. map growing so_far.held ++ k ∷ []) grown.2 ∙ sym (map-append growing so_far.held (grown.0 ∷ [])) in
    record {
      held = so_far.held ++ grown.0 ∷ [];
      fields_hold = subst (λ l. AllZip (IsHeldIn (2 ^ 64 - 1)) (first ∷ l) (so_far.held ++ grown.0 ∷ [])) (sym more) (held_push fields so_far.held (f x) grown.0 so_far.fields_hold grown.1);
      is_sum = subst (λ l. IsSum l new) all (push (map growing so_far.held) so_far.is_sum);
    }

zip_growing : (hs : List Plain) (Ls : List (List ℕ)) → AllZip StandsFor hs Ls → AllZip StandsFor (map growing hs) Ls
zip_growing [] [] z = tt
zip_growing [] (L ∷ Ls) z = absurd z
zip_growing (h ∷ hs) [] z = absurd z
zip_growing (h ∷ hs) (L ∷ Ls) z = (stands_growing h L z.0, zip_growing hs Ls z.1)

as_many : (fields : List (List ℕ)) (hs : List Plain) → AllZip (IsHeldIn (2 ^ 64 - 1)) fields hs → length (map growing hs) ≡ length fields
as_many [] [] z = refl
as_many [] (h ∷ hs) z = absurd z
as_many (f ∷ fields) [] z = absurd z
as_many (f ∷ fields) (h ∷ hs) z = ap (λ n. suc n) (as_many fields hs z.1)

-- the classes of histograms that grow are theirs
nested_growing : (g : Resolution) (hs : List Plain) → All (λ k. IsFiner (resolution k) g) (map growing hs) → All (λ k. IsFiner (resolution k) g) hs
nested_growing g [] all = All-nil (λ k. IsFiner (resolution k) g)
nested_growing g (h ∷ hs) all =
    let P : Plain → Type 0 = λ k. IsFiner (resolution k) g in
    All-cons P h hs (All-head P (growing h) (map growing hs) all) (nested_growing g hs (All-tail P (growing h) (map growing hs) all))

one_growing : (g : Resolution) (hs : List Plain) → Any (λ k. resolution k ≡ g) (map growing hs) → Any (λ k. resolution k ≡ g) hs
one_growing g hs one =
    let inside : one.0 < length hs = omega (arith, one.2, length-map hs growing) in
    let at : growing (get_or hs one.0 one.1) ≡ one.1 = sym (get_or-map growing hs one.0 one.1 one.1 inside) ∙ one.3 in
    (one.0, get_or hs one.0 one.1, inside, get_or_default hs one.0 (get_or hs one.0 one.1) one.1 inside, ap resolution at ∙ one.4)

-- all fields
pub sum_of_all : (fields : List (List ℕ)) (sum : IntervalSum) → SumsSoFar fields sum → SumsFields fields sum
sum_of_all fields sum s =
    let g = resolution sum.histogram in
    let samples : StandsForAll s.held sum.histogram = λ Ls z few. s.is_sum.samples Ls (zip_growing s.held Ls z) few in
    let counts : AreCounts sum.counts (length fields) (finer_of g s.held) =
    subst (AreCounts sum.counts (length fields)) (finer_growing g s.held) (subst (λ n. AreCounts sum.counts n (finer_of g (map growing s.held))) (as_many fields s.held s.fields_hold) s.is_sum.counts) in
    let classes : AreCoarsest s.held g = record { nested = nested_growing g s.held s.is_sum.classes.nested; one = one_growing g s.held s.is_sum.classes.one } in
    (finer_of g s.held, (s.held, s.fields_hold, refl, classes, samples), counts)
