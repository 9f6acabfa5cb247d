-- What a `&mut` ends as in a walk by hand, if the result is a `Result` that may hold it. Assumes `Logic`.
--     rests_ok         the result is an `Ok` that holds it
--     rests_err        the result is an `Err`, and the last value is known
--     rests_at_err     of a callee's `Err`: what is known of the last value
use Rattle.std.proofs.Common.{◌≡◌, Result, Ok, Err, refl, sym, subst, OnOk, OnErr}
use mathlib.Core.Option.{some, none}
use seplogic.Ra.Ura.{Ura}
use base.Logic.{ent, emp, ex, guard, via, ex_i, ex_e}
use mathlib.Core.List.{[], ◌∷◌}
use types.Kit.{‵, ◌$◌, ◌∵◌, !, qed, show, check, done}
use base.Fml.{GName, fres}
use types.Logic.{Logic, sem}
use denote.RattleType.{RattleType}
use denote.Ref.{MutBor}
use denote.Follow.{follows, follows_by, such_by}
use borrow.Follows.Kept.{follows_itself}
use Rattle.std.specs.Borrow.{RestsIfErr}

module _ {M : Type 1} {𝓤 : Ura M} (𝓛 : Logic 𝓤) (R : RattleType) (s : MutBor R.Denot) {A : Type 0} (E : Type 0) (name : A → GName) (P : R.Denot → Type 0) where
  -- how the last value follows from that of the result's `&mut`, and a value for `Err`
  abbrev Follows : Result A E → Type 0
  Follows r = (t : (R.Denot → R.Denot) × R.Denot) × ((w : R.Denot) → OnOk r (t.0 w ≡ w)) × OnErr r (P t.1)

  abbrev ok : A → Result A E
  ok x = Ok x

  pub rests_ok : (x : A) → name x ≡ s.ghost_name → ent 𝓤 (emp 𝓤) (sem 𝓛 (RestsIfErr R s name (ok x) P))
  unfolding such_by follows_by
  rests_ok x same =
      let itself = λ (n : GName). sem 𝓛 (follows R R s.ghost_name n (λ w. w)) in
      via 𝓤 (itself (name x)) (subst (λ (n : GName). ent 𝓤 (emp 𝓤) (itself n)) (sym same) (follows_itself 𝓛 R s.ghost_name))
      (ex_i 𝓤 (λ (t : Follows (ok x)). sem 𝓛 (follows_by R.Denot R.Denot R.coded.code R.coded.code s.ghost_name (some (name x)) t.0.0 t.0.1)) ((λ w. w, s.now), (λ w. refl), tt))

  pub rests_err : (e : E) (last : R.Denot) → P last → ent 𝓤 (sem 𝓛 (fres s.ghost_name (R.coded.code last))) (sem 𝓛 (RestsIfErr R s name (Err e) P))
  unfolding such_by follows_by
  rests_err e last p = ex_i 𝓤 (λ (t : Follows (Err e)). sem 𝓛 (follows_by R.Denot R.Denot R.coded.code R.coded.code s.ghost_name none t.0.0 t.0.1)) ((λ w. w, last), (λ w. tt), p)

  pub rests_at_err : (e : E) → ent 𝓤 (sem 𝓛 (RestsIfErr R s name (Err e) P)) (ex 𝓤 (λ (last : R.Denot). guard 𝓤 (P last) (sem 𝓛 (fres s.ghost_name (R.coded.code last)))))
  unfolding such_by follows_by
  rests_at_err e = ex_e 𝓤 (λ (t : Follows (Err e)). sem 𝓛 (follows_by R.Denot R.Denot R.coded.code R.coded.code s.ghost_name none t.0.0 t.0.1)) (λ t.
      qed 𝓛 (‵ (fres s.ghost_name (R.coded.code t.0.1)) ∷ []) ∵ show ! (λ (last : R.Denot). guard 𝓤 (P last) (sem 𝓛 (fres s.ghost_name (R.coded.code last)))) t.0.1 $ check ! t.2 $ done !)
