-- When two histograms have the same counts and values, and the first interval of a log.
use Rattle.std.specs.Prelude.{◌≡◌, ◌∷◌, ℕ, List, Result, Ok}
use Rattle.hdr_base.specs.Fractions.{Ratio}
use Rattle.hdr_log.specs.Grammar.{Entry, Interval, Span, reading}
use Rattle.hdr_model.specs.Plain.{Plain, resolution}
use Rattle.hdr_model.specs.Quantiles.{value_at_quantile}
use Rattle.hdr_model.specs.Samples.{StandsFor}

-- the second histogram has the first one's classes, counts and total, and its value at each quantile
pub record AreAlike (h k : Plain) : Type 0 where
  pub classes : resolution k ≡ resolution h
  pub counts : k.counts ≡ h.counts
  pub total : k.total ≡ h.total
  pub quantiles : (q : Ratio) → value_at_quantile k q ≡ value_at_quantile h q

-- if the first histogram stands for samples, the second one stands for them too, and is alike
abbrev pub StandsAlike : Plain → Plain → Type 0
StandsAlike h k = (S : List ℕ) → StandsFor h S → StandsFor k S × AreAlike h k

-- both copies stand for samples, and are alike
abbrev pub BothStandAlike : Plain → Plain → Plain → List ℕ → Type 0
BothStandAlike h decoded read S = (StandsFor decoded S × AreAlike h decoded) × (StandsFor read S × AreAlike h read)

-- a log begins with this interval
abbrev pub BeginsWith : List ℕ → Interval → Type 0
BeginsWith log i = (rest : List (Result Entry ℕ)) × (reading log ≡ Ok (Span i) ∷ rest)

-- a log begins with an interval, and this is its field
abbrev pub IsFirstField : List ℕ → List ℕ → Type 0
IsFirstField log field = (i : Interval) × BeginsWith log i × (field ≡ i.field)

-- the log does not begin with an interval
abbrev pub BeginsWithNone : List ℕ → Type 0
BeginsWithNone log = (i : Interval) → BeginsWith log i → ⊥
