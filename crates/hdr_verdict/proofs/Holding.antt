-- What intervals hold.
use Rattle.std.proofs.Common.{◌≡◌, ℕ, zero, suc, ◌+◌, ◌<◌, List, [], ◌∷◌, ◌++◌, length, map, take, get_or, lit≤, arith, ap, sym, subst, ◌∙◌, Bor}
use Rattle.std.proofs.lemmas.List.{get_or-map, length-map, map_more}
use Rattle.std.proofs.lemmas.List.Sums.{fold_more}
use Rattle.std.proofs.lemmas.Slice.Zip.{AllZip-long}
use Rattle.hdr_base.specs.Classes.{HasScale, unit_of, digits_of, least_from}
use Rattle.hdr_logs.specs.declared.stored.StoredInterval.{StoredInterval}
use Rattle.hdr_verdict.specs.declared.width.Width.{Width}
use Rattle.hdr_verdict.specs.Samples.{Held, Holds, AreHeld, nothing_held, joined_width, width_of, finest}

-- the interval of an index holds what is held there
pub held-at : (intervals : List StoredInterval) (all : List Held) (i : ℕ) (d : StoredInterval) → AreHeld intervals all → i < length intervals → Holds (get_or intervals i d) (get_or all i nothing_held)
held-at [] [] i d held inside = absurd (omega arith)
held-at [] (h ∷ all) i d held inside = absurd held
held-at (x ∷ intervals) [] i d held inside = absurd held
held-at (x ∷ intervals) (h ∷ all) zero d held inside = held.0
held-at (x ∷ intervals) (h ∷ all) (suc i) d held inside = held-at intervals all i d held.1 (omega arith)

-- the same, of a reference to the interval
pub held-by : (refs : List (Bor StoredInterval)) (all : List Held) (i : ℕ) (r : Bor StoredInterval) → r ≡ get_or refs i r → AreHeld (map (λ (r : Bor StoredInterval). r.now) refs) all
    → i < length (map (λ (r : Bor StoredInterval). r.now) refs) → Holds r.now (get_or all i nothing_held)
held-by refs all i r is held inside =
    let now : Bor StoredInterval → StoredInterval = λ r. r.now in
    let within : i < length refs = omega (arith, length-map refs now) in
    let same : get_or (map now refs) i r.now ≡ r.now = get_or-map now refs i r r.now within ∙ ap now (sym is) in
    subst (λ x. Holds x (get_or all i nothing_held)) same (held-at (map now refs) all i r.now held inside)

abbrev pub samples_in : Held → ℕ
samples_in held = length held.samples

-- one more interval is counted
pub count-more : (all : List Held) (n : ℕ) (samples : List ℕ) (width joined : Width) (count : ℕ) → n < length all → samples ≡ map samples_in (take n all) → width ≡ width_of (take n all)
    → count ≡ samples_in (get_or all n nothing_held) → joined ≡ joined_width width (get_or all n nothing_held)
    → (samples ++ count ∷ [] ≡ map samples_in (take (n + 1) all)) × (joined ≡ width_of (take (n + 1) all))
count-more all n samples width joined count inside are is one next = (
  ap (λ l. l ++ count ∷ []) are ∙ ap (λ m. map samples_in (take n all) ++ m ∷ []) one ∙ sym (map_more samples_in all n nothing_held inside),
  next ∙ ap (λ w. joined_width w (get_or all n nothing_held)) is ∙ sym (fold_more joined_width finest all n nothing_held inside),
)

pub finest-scale : HasScale 1 5
unfolding unit_of digits_of least_from
finest-scale = record { not_zero = omega arith; digits = omega arith; fits = lit≤ tt }

pub as-many : (intervals : List StoredInterval) (all : List Held) → AreHeld intervals all → length all ≡ length intervals
as-many intervals all held = AllZip-long Holds intervals all held

pub refs-many : (refs : List (Bor StoredInterval)) (intervals : List StoredInterval) → map (λ (r : Bor StoredInterval). r.now) refs ≡ intervals → length refs ≡ length intervals
refs-many refs intervals are = sym (length-map refs (λ (r : Bor StoredInterval). r.now)) ∙ ap length are
