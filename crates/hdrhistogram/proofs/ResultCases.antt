-- A `Result` in a walk by hand: its cases, and the machine value of each. Assumes `Logic`.
--     ok_or_err      it is an `Ok` or an `Err`
--     ok_opens, err_opens      one machine value, and what is owned of it
use mathlib.Core.Logic.{◌⊎◌, inl, inr}
use mathlib.Core.Path.{◌≡◌, refl, ap, ◌∙◌}
use mathlib.Core.List.{List, [], ◌∷◌, ◌++◌}
use Prim.Native.Nat.{ℕ}
use seplogic.Ra.Ura.{Ura}
use mir.Val.{Val, of_list}
use base.Logic.{SProp, ent, ex, guard}
use types.Logic.{Logic, sem}
use types.Kit.{‵, ◌$◌, ◌∵◌, !, qed, move, drop, fsplit, fpick, feq_l, show, check, rewrite, done}
use types.Match.{live}
use denote.Laws.{Is, shows}
use denote.Param.Laws.{Laws}
use denote.RattleType.{RattleType}
use denote.Steps.{only, peeks}
use denote.Struct.Members.{Lone}
use Rattle.std.proofs.Common.{Result, Ok, Err}
use Rattle.std.specs.contracts.result.Result as result

pub ok_or_err : {A E : Type 0} (r : Result A E) → ((x : A) × (r ≡ Ok x)) ⊎ ((e : E) × (r ≡ Err e))
ok_or_err (Ok x) = inl (x, refl)
ok_or_err (Err e) = inr (e, refl)

lone : (vs : List Val) → Lone vs → (u : Val) × (vs ≡ u ∷ [])
lone [] h = absurd h
lone (u ∷ []) h = (u, refl)
lone (u ∷ v ∷ vs) h = absurd h

module _ {M : Type 1} {𝓤 : Ura M} (𝓛 : Logic 𝓤) (T U : RattleType) where
  abbrev Whole : RattleType
  Whole = result.the_row T U

  -- v is the case k, of the machine value u
  abbrev pub Case : (R : RattleType) → R.Denot → Val → ℕ → Val → SProp 𝓤
  Case R x v k u = guard 𝓤 (v ≡ live k (of_list (u ∷ []))) (sem 𝓛 (R.own_val x (u ∷ [])))

  pub ok_opens : Laws T → (x : T.Denot) (v : Val) → ent 𝓤 (sem 𝓛 (Whole.own_val (Ok x) (v ∷ []))) (ex 𝓤 (Case T x v 0))
  ok_opens L x v = qed 𝓛 (‵ (Whole.own_val (Ok x) (v ∷ [])) ∷ []) ∵ fpick ! (λ us. fsplit ! $ feq_l ! (λ is. fpick ! (λ vss. fsplit ! $ feq_l ! (λ flat. fsplit ! $ move ! (1 ∷ []) $ drop ! $
      peeks ! T (Is T) (shows 𝓛 T) x vss.0 (λ p. let l = lone vss.0 (L.single x vss.0 p) in rewrite ! 0 (λ (ws : List Val). ‵ (T.own_val x ws)) l.1 refl $
      show ! (Case T x v 0) l.0 $ check ! (ap only is ∙ ap (λ (ws : List Val). live 0 (of_list ws)) (flat ∙ ap (λ (ws : List Val). ws ++ []) l.1)) $ done !)))))

  pub err_opens : Laws U → (x : U.Denot) (v : Val) → ent 𝓤 (sem 𝓛 (Whole.own_val (Err x) (v ∷ []))) (ex 𝓤 (Case U x v 1))
  err_opens L x v = qed 𝓛 (‵ (Whole.own_val (Err x) (v ∷ [])) ∷ []) ∵ fpick ! (λ us. fsplit ! $ feq_l ! (λ is. fpick ! (λ vss. fsplit ! $ feq_l ! (λ flat. fsplit ! $ move ! (1 ∷ []) $ drop ! $
      peeks ! U (Is U) (shows 𝓛 U) x vss.0 (λ p. let l = lone vss.0 (L.single x vss.0 p) in rewrite ! 0 (λ (ws : List Val). ‵ (U.own_val x ws)) l.1 refl $
      show ! (Case U x v 1) l.0 $ check ! (ap only is ∙ ap (λ (ws : List Val). live 1 (of_list ws)) (flat ∙ ap (λ (ws : List Val). ws ++ []) l.1)) $ done !)))))
