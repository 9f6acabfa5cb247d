-- Intervals that are stored.
use Rattle.std.proofs.Common.{◌≡◌, ℕ, ◌++◌, ◌∷◌, [], List, Option, map, option_and_then, slice_get, sym, ap, subst, ◌∙◌, append_assoc}
use Rattle.std.specs.List.{All}
use Rattle.std.proofs.lemmas.List.Elements.{All-nil, All-head, All-push}
use Rattle.std.proofs.lemmas.List.{map-append}
use Rattle.hdr_logs.specs.Intervals.{LogInterval}
use Rattle.hdr_input.specs.declared.unit.Unit.{Unit}
use Rattle.hdr_logs.specs.Stored.{Stored, stored, AddsOfFile, Pushes}
use Rattle.hdr_logs.specs.declared.intervals.LogIntervals.{LogIntervals}
use Rattle.hdr_logs.specs.declared.place.Place.{Place}
use Rattle.hdr_logs.specs.declared.stored.StoredInterval.{StoredInterval}

-- one more interval is stored, each as f makes it
pub keeps_more : (f : LogInterval → LogInterval) (old mid new : List Stored) (done : List LogInterval) (i : LogInterval) → mid ≡ old ++ map stored (map f done) → new ≡ mid ++ map stored (f i ∷ [])
    → new ≡ old ++ map stored (map f (done ++ i ∷ []))
keeps_more f old mid new done i before one =
    let all : map stored (map f (done ++ i ∷ [])) ≡ map stored (map f done) ++ map stored (f i ∷ []) = ap (map stored) (map-append f done (i ∷ [])) ∙ map-append stored (map f done) (f i ∷ []) in
    one ∙ ap (λ l. l ++ map stored (f i ∷ [])) before ∙ append_assoc old (map stored (map f done)) (map stored (f i ∷ [])) ∙ ap (λ l. old ++ l) (sym all)

-- one more interval of the same file is added
pub adds_of_file : (file : ℕ) (old mid new : LogIntervals) (decimals : Option ℕ) (unit : Option Unit) (place : Place) → place.file ≡ file → AddsOfFile file old mid → Pushes decimals unit place mid new
    → AddsOfFile file old new
adds_of_file file old mid new decimals unit place is before one =
    let at : one.0.place.file ≡ file = ap (λ p. p.file) one.4 ∙ is in
    (before.0 ++ one.0 ∷ [], one.1 ∙ ap (λ l. l ++ one.0 ∷ []) before.1 ∙ append_assoc old.list.items before.0 (one.0 ∷ []), All-push (λ s. s.place.file ≡ file) before.0 one.0 before.2 at)

-- where all intervals have the same unit, they have that of the first
pub unit_of_first : (all : List StoredInterval) (unit : Option Unit) → unit ≡ option_and_then (λ i. i.unit) (slice_get all 0) → (d : Option Unit) × All (λ i. i.unit ≡ d) all → All (λ i. i.unit ≡ unit) all
unit_of_first [] unit is have = All-nil (λ i. i.unit ≡ unit)
unit_of_first (x ∷ all) unit is have =
    let same : unit ≡ have.0 = is ∙ All-head (λ i. i.unit ≡ have.0) x all have.1 in
    subst (λ d. All (λ i. i.unit ≡ d) (x ∷ all)) (sym same) have.1
