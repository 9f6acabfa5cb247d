-- A fact in a walk by hand. Assumes `Logic`.
--     noted          a fact that holds is the new head of the context
use mathlib.Core.List.{List, ◌∷◌}
use seplogic.Ra.Ura.{Ura}
use base.Logic.{emp}
use contract.Monad.{fact, fact_i}
use types.Logic.{Logic}
use types.Kit.{Goal, Step, Item, raw, use0}

module _ {M : Type 1} {𝓤 : Ura M} {𝓛 : Logic 𝓤} {K : Type 0} {Γ : List (Item 𝓤)} {G : Goal 𝓤 𝓛.H} where
  pub noted : K → (φ : Type 0) → φ → Step K 𝓛 (raw (fact 𝓤 φ) ∷ Γ) G Γ G
  noted t φ x = use0 𝓛 (raw (fact 𝓤 φ)) (fact_i 𝓤 φ (emp 𝓤) x)
