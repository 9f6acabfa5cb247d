-- Runs of calls of any kind, one after another. (No item of the Rust crate: its documentation describes single calls, and
-- a caller has a history of them.)
use Rattle.std.specs.Prelude.{◌≡◌, ℕ, List, [], ◌∷◌, ◌==◌, if◌then◌else◌, ◌++◌, length}
use Rattle.hdr_model.specs.Plain.{Plain, resolution, max_of}
use Rattle.hdr_model.specs.Samples.{StandsFor, Fits}
use Rattle.hdr_base.specs.Classes.{Resolution, IsFiner, reach_of}
use Rattle.hdr_model.specs.Merging.{highest_top, corrected_samples}
use Rattle.hdr_model.specs.Recording.{high_with}

-- the samples recorded so far, and the value that the bins were last made for
pub record State : Type 0 where
  pub samples : List ℕ
  pub high : ℕ

-- what calls make of a histogram, one after another
abbrev pub after_each : {C : Type 0} → (C → Plain → Plain) → List C → Plain → Plain
after_each after [] h = h
after_each after (call ∷ calls) h = after_each after calls (after call h)

-- each call is accepted in its turn
abbrev pub EachIsAccepted : {C : Type 0} → (C → Plain → Plain) → (Plain → C → Type 0) → List C → Plain → Type 0
EachIsAccepted after IsAccepted [] h = Unit {0}
EachIsAccepted after IsAccepted (call ∷ calls) h = IsAccepted h call × EachIsAccepted after IsAccepted calls (after call h)

-- each call takes one state to the next, and after each the samples fit
abbrev pub EachTo : {C : Type 0} → (C → State → State → Type 0) → (List ℕ → Type 0) → List C → State → State → Type 0
EachTo CallTo fits [] s t = t ≡ s
EachTo CallTo fits (call ∷ calls) s t = (r : State) × CallTo call s r × fits r.samples × EachTo CallTo fits calls r t

-- a histogram stands for the samples of a state, and its bins were last made for the state's value
abbrev pub StandsAt : Plain → State → Type 0
StandsAt h s = StandsFor h s.samples × (h.high ≡ s.high)

-- a histogram stands for the samples of a state wherever they fit, and its bins were last made for the state's value
abbrev pub StandsWhereFits : ℕ → Plain → State → Type 0
StandsWhereFits greatest h s = (Fits greatest (resolution h) s.samples → StandsFor h s.samples) × (h.high ≡ s.high)

-- adding a source takes one state to another, whatever list the source stands for; its classes are no coarser
abbrev pub AddTo : Resolution → Plain → State → State → Type 0
AddTo g source s t =
    (L : List ℕ) × StandsFor source L × IsFiner (resolution source) g × (t.samples ≡ s.samples ++ L)
    × (t.high ≡ (if length L == 0 then s.high else high_with g s.high (max_of source) (max_of source)))

-- adding a source with correction takes one state to another
abbrev pub AddCorrectedTo : Resolution → Plain → ℕ → State → State → Type 0
AddCorrectedTo g source i s t =
    (L : List ℕ) × StandsFor source L × (t.samples ≡ s.samples ++ corrected_samples (resolution source) i L)
    × (t.high ≡ high_with g s.high (highest_top source) (reach_of g (highest_top source)))
