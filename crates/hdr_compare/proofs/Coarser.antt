-- Samples that are added in classes of any width: each at the lowest value of its class.
use Rattle.std.proofs.Common.{◌≡◌, ℕ, zero, suc, ◌-◌, ◌^◌, ◌<◌, ◌≤◌, Bool, true, false, List, [], ◌∷◌, ◌++◌, length, replicate, refl, sym, ap, subst, ◌∙◌, arith, inl, inr, append-nil}
use Rattle.std.specs.List.{All}
use Rattle.std.proofs.lemmas.Bool.{cases_lt}
use Rattle.std.proofs.lemmas.List.Elements.{All-append, All-cons, All-head, All-tail}
use Rattle.hdr_base.specs.Classes.{Resolution}
use Rattle.hdr_base.proofs.ClassesReach.{reach-fits}
use Rattle.hdr_model.specs.Merging.{after_add, after_add_within, classes_from, lowest_values, same_bins, top_class, with_room}
use Rattle.hdr_model.specs.Plain.{IsPlain, Plain, max_of, reach, resolution}
use Rattle.hdr_model.specs.Recording.{Times, after_records, samples_of}
use Rattle.hdr_model.specs.Samples.{Fits, GainsSamples, StandsFor}
use Rattle.hdr_model.proofs.MergingKeeps.{merged-none, merged-some, same-bins, taken-other, taken-same, with_room-more, with_room-reach, with_room-same}
use Rattle.hdr_model.proofs.MergingOrder.{own-class}
use Rattle.hdr_model.proofs.MergingStands.{StandsFor-each, StandsFor-joined, classes-inside, resolution-with_room, spread-append, spread-length, spread-top}
use Rattle.hdr_model.proofs.PlainBins.{max-has-bin}
use Rattle.hdr_model.proofs.PlainKept.{IsPlain-grown, resolution-digits, resolution-fits}
use Rattle.hdr_model.proofs.RecordingStands.{StandsFor-grown}

all-same : (r v n : ℕ) → v ≤ r → All (λ x. x ≤ r) (replicate n v)
all-same r v zero le = λ i d h. absurd (omega arith)
all-same r v (suc n) le = All-cons (λ x. x ≤ r) v (replicate n v) le (all-same r v n le)

values-within : (r : ℕ) (ts : List Times) → All (λ (t : Times). t.value ≤ r) ts → All (λ x. x ≤ r) (samples_of ts)
values-within r [] a = λ i d h. absurd (omega arith)
values-within r (t ∷ ts) a =
    All-append (λ x. x ≤ r) (replicate t.times t.value) (samples_of ts) (all-same r t.value t.times (All-head (λ (t : Times). t.value ≤ r) t ts a))
    (values-within r ts (All-tail (λ (t : Times). t.value ≤ r) t ts a))

-- what is recorded if a histogram is added to one of other classes
abbrev times-of : Plain → List Times
times-of s = classes_from (resolution s) 0 s.counts ++ top_class (resolution s) s.top_mark

times-are : (s : Plain) → samples_of (times-of s) ≡ lowest_values s
times-are s =
    spread-append (classes_from (resolution s) 0 s.counts) (top_class (resolution s) s.top_mark)
    ∙ ap (λ l. lowest_values s ++ l) (spread-top (resolution s) s.top_mark) ∙ append-nil (lowest_values s)

-- the lowest values are as many as the samples
pub lowest-many : (most : ℕ) (s : Plain) (T : List ℕ) → IsPlain most s → StandsFor s T → length (lowest_values s) ≡ length T
lowest-many most s T q stands = spread-length most s T q stands

-- a histogram stands for the lowest values of its classes
stands-lowest : (most : ℕ) (s : Plain) (T : List ℕ) → IsPlain most s → StandsFor s T → StandsFor s (lowest_values s)
stands-lowest most s T q stands = record {
  numbers = λ i lt. sym (own-class (resolution s) i s.counts (resolution-digits most s q));
  within = subst (λ l. All (λ x. x ≤ reach s) l) (times-are s) (values-within (reach s) (times-of s) (classes-inside most s (reach s) q (max-has-bin most s q)));
  total = stands.total ∙ sym (lowest-many most s T q stands);
}

each-lowest : (greatest most : ℕ) (h s : Plain) (S : List ℕ) → 1 ≤ greatest → IsPlain greatest h → IsPlain most s → StandsFor h S → max_of s ≤ reach h
    → Fits greatest (resolution h) (S ++ lowest_values s) → StandsFor (after_records greatest h (times-of s)) (S ++ lowest_values s)
each-lowest greatest most h s S one p q stands room fits =
    let w = after_records greatest h (times-of s) in
    let all : Fits greatest (resolution h) (S ++ samples_of (times-of s)) = subst (λ l. Fits greatest (resolution h) (S ++ l)) (sym (times-are s)) fits in
    subst (λ l. StandsFor w (S ++ l)) (times-are s) (StandsFor-each greatest h (times-of s) S one p (classes-inside most s (reach h) q room) stands all)

taken-lowest : (greatest most : ℕ) (h s : Plain) (S T : List ℕ) → 1 ≤ greatest → IsPlain greatest h → IsPlain most s → StandsFor h S → StandsFor s T → max_of s ≤ reach h
    → Fits greatest (resolution h) (S ++ lowest_values s) → StandsFor (after_add_within greatest h s) (S ++ lowest_values s)
taken-lowest greatest most h s S T one p q stands source room fits =
    let P = lowest_values s in
    let step : (b : Bool) → same_bins h s ≡ b → StandsFor (after_add_within greatest h s) (S ++ P) =
    λ b. elim b as (λ b. same_bins h s ≡ b → StandsFor (after_add_within greatest h s) (S ++ P)) [
      | true ↦ λ e. (
          let both = same-bins h s e in
          let joined = StandsFor-joined greatest most h s S P one p q stands (stands-lowest most s T q source) room fits both.0 both.1 in
          subst (λ w. StandsFor w (S ++ P)) (taken-same greatest h s e) joined)
      | false ↦ λ e. subst (λ w. StandsFor w (S ++ P)) (taken-other greatest h s e) (each-lowest greatest most h s S one p q stands room fits)
    ] in
    step (same_bins h s) refl

max-small : (most : ℕ) (s : Plain) → IsPlain most s → max_of s < 2 ^ 64
unfolding reach
max-small most s q = omega (arith, max-has-bin most s q, reach-fits (resolution s) s.high q.high_fits (resolution-fits most s q))

no-values : (L : List ℕ) → length L ≡ 0 → L ≡ []
no-values [] e = refl
no-values (x ∷ L) e = absurd (omega arith)

merged-lowest : (greatest most : ℕ) (h s : Plain) (S T : List ℕ) → 1 ≤ greatest → IsPlain greatest h → IsPlain most s → StandsFor h S → StandsFor s T
    → Fits greatest (resolution h) (S ++ lowest_values s) → StandsFor (after_add greatest h s) (S ++ lowest_values s)
merged-lowest greatest most h s S T one p q stands source fits =
    let P = lowest_values s in
    elim (cases_lt 0 s.total) [
      | inl pos ↦ (
          let m = max_of s in
          let w = with_room h m in
          let parts : IsPlain greatest w × StandsFor w S = elim (cases_lt (reach h) m) [
            | inl lt ↦ rw (with_room-more h m lt) (IsPlain-grown greatest h m p (max-small most s q) lt, StandsFor-grown greatest h m S lt p stands)
            | inr le ↦ rw (with_room-same h m le) (p, stands)
          ] in
          let all = subst (λ (g : Resolution). Fits greatest g (S ++ P)) (sym (resolution-with_room h m)) fits in
          subst (λ x. StandsFor x (S ++ P)) (sym (merged-some greatest h s (λ e. omega arith)))
          (taken-lowest greatest most w s S T one parts.0 q parts.1 source (with_room-reach h m) all))
      | inr none ↦ (
          let empty : P ≡ [] = no-values P (omega (arith, source.total, lowest-many most s T q source)) in
          subst (λ x. StandsFor x (S ++ P)) (sym (merged-none greatest h s (omega arith)))
          (subst (λ l. StandsFor h (S ++ l)) (sym empty) (subst (λ l. StandsFor h l) (sym (append-nil S)) stands)))
    ]

-- a sum gains the lowest values of the classes of the histogram that was added
pub gains-lowest : (h s sum : Plain) (T : List ℕ) → IsPlain (2 ^ 64 - 1) h → IsPlain (2 ^ 64 - 1) s → sum ≡ after_add (2 ^ 64 - 1) h s → StandsFor s T
    → GainsSamples (2 ^ 64 - 1) h sum (lowest_values s)
gains-lowest h s sum T p q is source =
    λ S stands fits. subst (λ w. StandsFor w (S ++ lowest_values s)) (sym is) (merged-lowest (2 ^ 64 - 1) (2 ^ 64 - 1) h s S T (omega arith) p q stands source fits)
