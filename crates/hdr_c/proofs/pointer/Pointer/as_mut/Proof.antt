-- `as_mut` lends the histogram, and the pointer follows it.
use mathlib.Core.Path.{◌≡◌, refl, sym}
use mathlib.Core.Bool.{true}
use Rattle.std.specs.Prelude.{Option, Some, is_some}
use Prim.Native.Nat.{ℕ}
use mathlib.Core.List.{List, [], ◌∷◌}
use seplogic.Ra.Ura.{Ura}
use base.Fraction.{full_share}
use mir.Syntax.{named}
use mir.Raw.{raw as bare}
use mir.Val.{Val, vptr}
use base.Logic.{ent, sep, id⊢}
use base.Fml.{GName, Fml, ftrue, flft, fsep}
use contract.Monad.{fact}
use contract.Running.{tables}
use types.Logic.{Logic, sem}
use types.Kit.{‵, ◌⊛◌, some, at_ret, ◌$◌, ◌∵◌, !, qed, move, keep, use1, drop, split, join, pick, fsplit, fsplit3, fjoin, suffices, frame, done, raw, later, await, group, fpack, rewrite}
use types.Part.{whole, sub, look_in}
use types.Run.{stop, fld, load, of_opd, first, blocks, exec, returns, enter, addr}
use types.ByLocal.{alloc_all, pass_all, free_all, look_at, get, through, sets, env, sets_last}
use denote.RattleType.{RattleType}
use denote.Memory.{part_at, mem, cell_at, part_of}
use denote.RawPtr.{block_ptr}
use denote.Ref.{MutRef, mut_vals, mut_Tells}
use denote.Signature.{plain, mut_ref_to}
use denote.Steps.{nothing, heard, opens}
use denote.Exit.{no}
use denote.Triple.Walked.{says, Stays, stay_dropped, walk_of, ends_at, Goes-spent_ref}
use denote.Follow.{follows, Part, lends_Part}
use Rattle.std.proofs.raw_atomic.Walks.{proved}
use Rattle.core.proofs.alloc.Calls.{token}
use Rattle.std_alloc.proofs.BoxSteps.Form.{D, R, B, τ, word, handle}
use Rattle.std_alloc.proofs.BoxSteps.Steps.{box_in, box_out}
use Rattle.hdr_c.proofs.AsBox.{E, some_of}
use Rattle.hdr_c.specs.Lending.{with_held}
use Rattle.hdr_c.specs.contracts.held.Held as Held
use Rattle.hdr_c.specs.contracts.pointer.Pointer as Pointer
use Rattle.hdr_c.specs.contracts.pointer.Pointer.as_mut as f
use Rattle.hdr_c.proofs.pointer.Pointer.as_mut.Statement.{statement}
use Rattle.hdr_c.proofs.pointer.Pointer.as_mut.Code as code

abbrev S : RattleType
S = Pointer.the_row

abbrev stayed : Stays f.ended.signature.params f.ended.kept
stayed = (stay_dropped (mut_ref_to (0 ∷ []) tt (plain (λ _. S))) no, tt)

module _ {M : Type 1} {𝓤 : Ura M} (𝓛 : Logic 𝓤) (h : S.Denot) (x : Held.the_row.Denot) (rb ro : ℕ) where
  abbrev v : Held.the_row.Denot → D E
  v w = record { ptr = h.at; alloc = h.alloc; value = w }

  -- all of the pointer but its histogram
  abbrev Rest : ℕ → ℕ → Val → Fml
  Rest b o hv = fsep (fsep (token (E.al) h.alloc (bare (τ E)) (block_ptr b o)) (handle E h.alloc hv)) (cell_at full_share S.mir (word E hv b o ∷ []) rb ro)

  back : (b o : ℕ) (hv : Val) → h.at ≡ block_ptr b o → (w : Held.the_row.Denot) → ent 𝓤 (sep 𝓤 (sem 𝓛 ((mem Held.the_row).own_at w b o)) (sem 𝓛 (Rest b o hv))) (sem 𝓛 ((mem S).own_at (with_held h w) rb ro))
  unfolding part_of
  back b o hv at_b w =
      qed 𝓛 (‵ (part_at (R E) full_share w b o) ∷ ‵ (Rest b o hv) ∷ []) ∵ move ! (1 ∷ []) $ fsplit ! $ fsplit ! $ move ! (3 ∷ []) $
      box_in E ! (v w) b o w at_b refl $ use1 𝓛 (‵ (S.own_val (with_held h w) (word E hv b o ∷ []))) (id⊢ 𝓤 _) $ move ! (1 ∷ 0 ∷ []) $ fjoin ! $
      fpack ! (List Val) (λ us. fsep (cell_at full_share S.mir us rb ro) (S.own_val (with_held h w) us)) (word E hv b o ∷ []) $ done !

pub as_mut_spec : {M : Type 1} → statement M
as_mut_spec 𝓤 𝓛 𝓜 𝓡 wired =
    let c = f.clauses 𝓛 𝓜.mem 𝓡.returns in let W = walk_of 𝓛 f.ended stayed c in let 𝓣 = tables 𝓤 𝓛.H 𝓜 𝓡 𝓡.env in
    proved 𝓛 f.ended stayed c 𝓜 𝓡 (Goes-spent_ref 𝓛 1 (0 ∷ []) tt (plain (λ _. S)), tt)
    f.Key.name code.function (code.unfolded 𝓤 𝓛.H 𝓜 𝓡 wired)
    (λ κs. (mut_vals, tt)) (λ κs. (mut_Tells (named 0) κs.0 S, tt)) (λ κs qs bounds a _ are.
    let κ = κs.0 in let q = qs.0 in let γ = a.0.ghost_name in let rb = a.0.ref_ptr.0 in let ro = a.0.ref_ptr.1 in let h = a.0.now in let vs = mut_vals a.0 in
    let y : W.Ghost = ((κs, qs, bounds, a, (vs, tt)), tt) in
    qed 𝓛 (((‵ (flft κ q) ⊛ ‵ ftrue) ⊛ ‵ ((MutRef (named 0) κ S).own_val a.0 vs) ⊛ ‵ ftrue) ∷ raw (fact 𝓤 (is_some h.held ≡ true)) ∷ []) ∵
    move ! (1 ∷ []) $ heard ! (is_some h.held ≡ true) (λ filled.
    let found : (x : Held.the_row.Denot) × (h.held ≡ Some x) = some_of h.held filled in let x = found.0 in
    split ! $ split ! $ move ! (2 ∷ []) $ split ! $ keep ! (0 ∷ 2 ∷ []) $
    enter ! _ _ _ _ _ $ alloc_all ! (λ l. pass_all ! refl ((tt, tt), tt) $
    fsplit3 ! $ drop ! $ opens ! tt S {h = h} rb ro (λ us. move ! (1 ∷ []) $
    rewrite ! 0 (λ (o : Option Held.the_row.Denot). ‵ (S.own_val (record h { held = o }) us)) found.1 refl $ use1 𝓛 (‵ ((B E).own_val (v 𝓛 h x rb ro x) us)) (id⊢ 𝓤 _) $
    box_out E ! (v 𝓛 h x rb ro x) us (λ b o hv at_b is fa. move ! (1 ∷ 2 ∷ []) $ fjoin ! $ move ! (1 ∷ []) $
    rewrite ! 2 (λ (ws : List Val). ‵ (cell_at full_share S.mir ws rb ro)) is refl $
    -- [the histogram; the right to free it, and the allocator; the pointer's cell; the open borrow, in three entries]
    first ! $ blocks ! $
    sets ! (of_opd ! (load ! (through ! refl (fld ! refl (stop !))) (look_in ! 2 (sub ! 0 refl (whole !))))) refl (tt, tt) $
    sets ! (of_opd ! (get ! refl)) refl (tt, tt) $
    sets_last ! (addr ! (through ! refl (stop !))) refl (tt, tt) $
    exec ! 𝓣.C 𝓣.Λ (env code.Mir.locals l) code.Mir.t-2 (at_ret _ (W.post y)) $
    sets ! (of_opd ! (get ! refl)) refl (tt, tt) $
    move ! (1 ∷ 2 ∷ []) $ fjoin ! $ move ! (2 ∷ 3 ∷ 4 ∷ 1 ∷ 0 ∷ []) $ group ! 5 $
    use1 𝓛 (later (some (λ (γ' : GName). raw (Part 𝓛 S Held.the_row (with_held h) (named 0) κ q rb ro b o γ (sem 𝓛 (Rest 𝓛 h x rb ro b o hv)) (back 𝓛 h x rb ro b o hv at_b) x γ'))))
    (lends_Part 𝓛 S Held.the_row (with_held h) (named 0) κ q rb ro b o γ (sem 𝓛 (Rest 𝓛 h x rb ro b o hv)) (back 𝓛 h x rb ro b o hv at_b) (S.coded.code h) (S.coded.code h) x) $ await ! tt $ pick ! (λ γ'.
    returns ! (look_at ! 0 refl) $ free_all ! refl $ keep ! (0 ∷ []) $
    use1 𝓛 (‵ ((MutRef (named 0) κ Held.the_row).own_val (record { ref_ptr = (b, o); ghost_name = γ'; now = x }) (vptr b o ∷ [])) ⊛ ‵ (flft κ q) ⊛ ‵ (follows S Held.the_row γ γ' (with_held h))) (id⊢ 𝓤 _) $ split ! $ move ! (1 ∷ []) $ split ! $ move ! (2 ∷ 0 ∷ 1 ∷ []) $
    suffices ! _ (ends_at 𝓛 f.ended stayed c y (vptr b o) (record { ref_ptr = (b, o); ghost_name = γ'; now = x }) (tt, tt) (tt, tt)) $
    nothing ! $ nothing ! $ fjoin ! $ join ! $ nothing ! $ move ! (2 ∷ 0 ∷ []) $ join ! $ join ! $ frame ! $ says ! (sym found.1) $ done !))))))
