-- `start_and_end` lends both to `begin_log_with`, and has them back after `end`, or at what the clause `left` says.
use mathlib.Core.Logic.{inl, inr}
use mathlib.Core.Path.{◌≡◌, refl, sym, ap, subst, ◌∙◌}
use mathlib.Core.List.{List, [], ◌∷◌}
use lib.Dec.{lit<}
use mir.Syntax.{Body, a_type, dcons, dnil, named}
use mir.MapTy.{inst_fn}
use mir.Val.{Val, vptr, vunit, of_list}
use base.Fml.{Fml, Lft, Share, GName, ftrue, flft, fres, Incl-trans}
use base.Logic.{SProp, id⊢}
use contract.BorrowLft.{◌⊑◌, meet_⊑_right}
use contract.Lifetimes.{Lfts}
use contract.Monad.{fact}
use contract.Running.{tables}
use prog.Wp.{Wp, after_seq, at_return}
use types.Kit.{Post as After, any_q, at_ret, ‵, raw, ◌⊛◌, some, later, given, ◌$◌, ◌∵◌, !, qed, by, move, keep, drop, use1, split, join, fsplit, fjoin, feq_i, feq_l, group, pick, await, learn, rewrite}
use types.Match.{live, vrt, in_variant}
use types.Part.{whole, agg}
use types.Run.{lit, unit_lit, addr, fld, stop, of_opd, and_then, no_more, enter, exec, first, switches_on, returns}
use types.ByLocal.{alloc_all, pass_all, free_all, get, get_in, get_tag, look_at, through, sets, sets_last, lands_as, env}
use denote.Exit.{yes}
use denote.Laws.{Is, shows}
use denote.RattleType.{RattleType}
use denote.Signature.{plain, named_lft}
use denote.Builtin.{RefOf, unit}
use denote.Ref.{MutBor, ShrRef, mut_vals, mut_Tells, shr_vals, shr_Tells}
use denote.Param.{param, bounded}
use denote.Param.Laws.{Laws, param_laws}
use denote.Steps.{only, nothing, heard, peeks}
use denote.Triple.Call.{calls_at}
use denote.Triple.Clauses.{Lasts, lasts}
use denote.Triple.Spec.{triple_of}
use denote.Triple.Table.{framed}
use denote.Triple.Walked.{Stays, stay_dropped, stay_ref, walk_of, Goes-dropped, Goes-ref}
use Rattle.std.proofs.Common.{Ok, Err, IfOk, ◌↔◌, false}
use Rattle.std.specs.Io.KnownBytes.{Appends}
use Rattle.std.proofs.ResultValues.{and_tt, ok_of, err_of}
use Rattle.std.proofs.VecSteps.Shapes.{after, head, arm_body}
use Rattle.std.proofs.raw_atomic.Walks.{proved, leaves}
use Rattle.std.specs.contracts.result.Result as result
use Rattle.hdrhistogram.proofs.BorrowLoans.{Ref, part, lends, ends}
use Rattle.hdrhistogram.proofs.BorrowRests.{rests_at_err}
use Rattle.hdrhistogram.proofs.FactSteps.{noted}
use Rattle.hdrhistogram.proofs.LogLendingFacts as facts
use Rattle.hdrhistogram.proofs.ResultCases.{ok_or_err, ok_opens, err_opens}
use Rattle.hdrhistogram.specs.LogLeaving.{WriteFails, WritesText}
use Rattle.hdrhistogram.specs.LogLending.{writer_rests, serializer_rests}
use Rattle.hdrhistogram.specs.LogStarts.{IsStartText, AreTimesInRange}
use Rattle.hdrhistogram.specs.LogWriters.{sink, serializer_of}
use Rattle.hdrhistogram.specs.declared.serialization.interval_log.writer.IntervalLogWriter.{IntervalLogWriter}
use Rattle.hdrhistogram.specs.declared.serialization.interval_log.errors.IntervalLogWriterError.{IntervalLogWriterError}
use Rattle.hdrhistogram.specs.contracts.serialization.interval_log.errors.IntervalLogWriterError as error
use Rattle.hdrhistogram.proofs.serialization.interval_log.errors.IntervalLogWriterError.TheLaws.{the_row_laws as error_laws}
use Rattle.hdrhistogram.specs.contracts.serialization.interval_log.writer.IntervalLogWriter as log
use Rattle.hdrhistogram.proofs.serialization.interval_log.writer.IntervalLogWriter.TheLaws.{the_row_laws as log_laws}
use Rattle.hdrhistogram.specs.contracts.serialization.interval_log.builder.IntervalLogWriterBuilder as builder
use Rattle.hdrhistogram.specs.contracts.serialization.interval_log.builder.IntervalLogWriterBuilder.begin_log_with as begin
use Rattle.hdrhistogram.proofs.serialization.interval_log.builder.IntervalLogWriterBuilder.begin_log_with.Met as begin_met
use Rattle.hdr_surface.specs.contracts.after_errors.end as end
use Rattle.hdr_surface.proofs.after_errors.end.Met as end_met
use Rattle.hdr_surface.specs.contracts.after_errors.start_and_end.{ended, clauses}
use Rattle.hdr_surface.specs.contracts.after_errors.start_and_end.Key.{name as #self}
use Rattle.hdr_surface.proofs.after_errors.start_and_end.Statement.{statement}
use Rattle.hdr_surface.proofs.after_errors.start_and_end.Code as code

pub start_and_end_spec : {M : Type 1} → statement M
start_and_end_spec 𝓤 𝓛 𝓜 𝓡 wired W S X LW LS LX gw dw gs ds dx mw ms mx =
    let H = 𝓛.H in let 𝓣 = tables 𝓤 H 𝓜 𝓡 𝓡.env in
    let B : RattleType = builder.the_row in let R : RattleType = param 0 W in let Q : RattleType = param 1 S in let Er : RattleType = error.the_row (param 2 X) in
    let En = ended W S X gw dw gs ds dx in let c = clauses W S X gw dw gs ds dx 𝓛 𝓜.mem 𝓡.returns in
    let inst = bounded (a_type ∷ a_type ∷ a_type ∷ []) (W, (S, (X, tt))) (dcons dw (dcons ds (dcons dx dnil))) in let fn = inst_fn inst code.function in
    let self = RefOf (0 ∷ []) tt (plain (λ _. B)) (λ _. tt) in
    let hs : Stays En.signature.params En.kept = (stay_dropped self yes, (stay_ref (1 ∷ []) tt (plain (λ _. R)), (stay_ref (2 ∷ []) tt (plain (λ _. Q)), tt))) in
    proved 𝓛 En hs c 𝓜 𝓡 (Goes-dropped 𝓛 6 self yes (λ κs x f. refl), (Goes-ref 𝓛 6 1 tt (plain (λ _. R)), (Goes-ref 𝓛 6 2 tt (plain (λ _. Q)), tt))) (#self inst) fn
    (code.unfolded 𝓤 H 𝓜 𝓡 wired (W, (S, (X, tt))) dw ds dx)
    (λ κs. (shr_vals, (mut_vals, (mut_vals, tt)))) (λ κs. (shr_Tells (named 0) κs.0 B, (mut_Tells (named 1) κs.1.0 R, (mut_Tells (named 2) κs.1.1.0 Q, tt))))
    (λ κs qs bounds a g are.
    let κ₀ : Lft = κs.0 in let κ : Lft = κs.1.0 in let κb : Lft = κs.1.1.0 in let κw : Lft = κs.1.1.1.0 in let κs' : Lft = κs.1.1.1.1.0 in let κx : Lft = κs.1.1.1.1.1.0 in
    let q₀ : Share = qs.0 in let q : Share = qs.1.0 in let qb : Share = qs.1.1.0 in let qw : Share = qs.1.1.1.0 in let qs' : Share = qs.1.1.1.1.0 in let qx : Share = qs.1.1.1.1.1.0 in
    let start = a.0.now in let w : MutBor R.Denot = a.1.0 in let s : MutBor Q.Denot = a.1.1.0 in
    let y : (walk_of 𝓛 En hs c).Ghost = ((κs, qs, bounds, a, (shr_vals a.0, (mut_vals w, (mut_vals s, tt)))), g) in let Post : Val → SProp 𝓤 = (walk_of 𝓛 En hs c).post y in
    let Self : Fml = (ShrRef (named 0) κ₀ B).own_val a.0 (shr_vals a.0) in
    qed 𝓛 (((‵ (flft κ₀ q₀) ⊛ ‵ (flft κ q) ⊛ ‵ (flft κb qb) ⊛ ‵ (flft κw qw) ⊛ ‵ (flft κs' qs') ⊛ ‵ (flft κx qx) ⊛ ‵ ftrue) ⊛ (‵ Self ⊛ ‵ (Ref R (named 1) κ w) ⊛ ‵ (Ref Q (named 2) κb s) ⊛ ‵ ftrue))
    ∷ raw (fact 𝓤 (κw ⊑ W.lives)) ∷ raw (fact 𝓤 (κs' ⊑ S.lives)) ∷ raw (fact 𝓤 (κx ⊑ X.lives)) ∷ ‵ ftrue ∷ []) ∵
    move ! (1 ∷ 2 ∷ 3 ∷ []) $ heard ! (κw ⊑ W.lives) (λ in-w. heard ! (κs' ⊑ S.lives) (λ in-s. heard ! (κx ⊑ X.lives) (λ in-x.
    split ! $ split ! $ move ! (1 ∷ []) $ split ! $ move ! (1 ∷ []) $ split ! $ move ! (1 ∷ []) $ split ! $ move ! (1 ∷ []) $ split ! $ move ! (1 ∷ []) $ split ! $
    move ! (7 ∷ []) $ split ! $ move ! (1 ∷ []) $ split ! $ move ! (1 ∷ []) $ split ! $ keep ! (3 ∷ 2 ∷ 0 ∷ 10 ∷ 9 ∷ 8 ∷ 7 ∷ 6 ∷ 4 ∷ []) $
    -- [self; the writer; the serializer; the tokens of κ₀, κ, κb, κw, κs' and κx]
    enter ! 𝓣.C 𝓣.Λ fn (vptr a.0.ref_ptr.0 a.0.ref_ptr.1 ∷ vptr w.ref_ptr.0 w.ref_ptr.1 ∷ vptr s.ref_ptr.0 s.ref_ptr.1 ∷ []) Post $
    alloc_all ! (λ l. pass_all ! refl ((tt, tt), ((tt, tt), ((tt, tt), tt))) $ let Ev = env fn.locals l in
    -- `begin_log_with` borrows both
    sets ! (addr ! (through ! refl (stop !))) refl (tt, tt) $ sets ! (addr ! (through ! refl (stop !))) refl (tt, tt) $
    move ! (1 ∷ 4 ∷ []) $ lends ! tt R (named 1) κ q w (λ α δ. let κ' : Lft = α ∷ κ in let p : Share = part q in
    -- [the token of κ'; the writer's loan; what is kept; self; the serializer; the tokens of κ₀, κb, κw, κs' and κx]
    move ! (4 ∷ 6 ∷ []) $ lends ! tt Q (named 2) κb qb s (λ β ε. let κb' : Lft = β ∷ κb in let pb : Share = part qb in
    -- [the token of κb'; the serializer's loan; what is kept; the token of κ'; the writer's loan; what is kept; self; the tokens of κ₀, κw, κs' and κx]
    let κs₁ : Lfts 6 = (κ₀, (κ', (κb', (κw, (κs', (κx, tt)))))) in let w₁ : MutBor R.Denot = record w { ghost_name = δ } in let s₁ : MutBor Q.Denot = record s { ghost_name = ε } in
    let G = triple_of 𝓛 (begin.signature W S X) (begin.spec W S X gw dw gs ds dx 𝓛 𝓜.mem 𝓡.returns) in
    let z : G.Ghost = ((κs₁, (q₀, (p, (pb, (qw, (qs', (qx, tt)))))), (Incl-trans (meet_⊑_right (α ∷ []) κ) bounds.0, (Incl-trans (meet_⊑_right (β ∷ []) κb) bounds.1.0, tt)), (a.0, (w₁, (s₁, tt))), (shr_vals a.0, (mut_vals w, (mut_vals s, tt)))), tt) in
    nothing ! $ move ! (8 ∷ 4 ∷ 1 ∷ 9 ∷ 10 ∷ 11 ∷ 0 ∷ []) $ group ! 7 $ nothing ! $ move ! (6 ∷ 4 ∷ 2 ∷ 0 ∷ []) $ group ! 4 $
    nothing ! $ noted ! (κx ⊑ X.lives) in-x $ join ! $ noted ! (κs' ⊑ S.lives) in-s $ join ! $ noted ! (κw ⊑ W.lives) in-w $ join ! $ move ! (2 ∷ 1 ∷ 0 ∷ []) $ join ! $ join ! $ use1 𝓛 (raw (G.pre z)) (id⊢ 𝓤 _) $
    calls_at ! (framed 𝓤 H 𝓜 𝓣) G (begin_met.met 𝓤 𝓛 𝓜 𝓡 (code.calls-hdrhistogram::serialization::interval_log::builder::IntervalLogWriterBuilder::begin_log_with 𝓡.env wired) W S X LW LS LX gw dw gs ds dx mw ms mx) z
    (and_then ! (get ! refl) (and_then ! (get ! refl) (and_then ! (get ! refl) (no_more !)))) (λ v.
    let Lr : RattleType = log.the_row (named_lft 6 1 tt κs₁) (named_lft 6 2 tt κs₁) R Q in let Begun : RattleType = result.the_row Lr Er in let Out : RattleType = result.the_row unit Er in
    let Begins = λ (it : Begun.Denot). facts.Begun W.Denot S.Denot X.Denot gw.contents start w s w.now it in
    let name-w = λ (it : IntervalLogWriter W.Denot S.Denot). (sink it).ghost_name in let name-s = λ (it : IntervalLogWriter W.Denot S.Denot). (serializer_of it).ghost_name in
    use1 𝓛 (later (some (λ (r : Begun.Denot). ((‵ (flft κ₀ q₀) ⊛ ‵ (flft κ' p) ⊛ ‵ (flft κb' pb) ⊛ ‵ (flft κw qw) ⊛ ‵ (flft κs' qs') ⊛ ‵ (flft κx qx) ⊛ ‵ ftrue) ⊛ ‵ (Begun.own_val r (v ∷ []))) ⊛
    some (λ (ws : Lasts (begin.ended W S X gw dw gs ds dx) z.0.0 z.0.3). ‵ (lasts (begin.ended W S X gw dw gs ds dx) z.0.0 z.0.3 ws) ⊛ (‵ (writer_rests R gw.contents start w₁ r) ⊛ ‵ (serializer_rests Q s₁ r)) ⊛
    raw (fact 𝓤 (IfOk r (λ it. name-w it ≡ δ))) ⊛ raw (fact 𝓤 (IfOk r (λ it. name-s it ≡ ε))) ⊛ raw (facts.begun_facts W.Denot S.Denot X.Denot gw.contents start w s w.now 𝓤 r))))) (id⊢ 𝓤 _) $
    await ! tt $ pick ! (λ r. split ! $ split ! $ move ! (2 ∷ []) $ pick ! (λ ws. split ! $ drop ! $ split ! $ move ! (1 ∷ []) $
    split ! $ heard ! (IfOk r (λ it. name-w it ≡ δ)) (λ same-w. split ! $ heard ! (IfOk r (λ it. name-s it ≡ ε)) (λ same-s.
    use1 𝓛 (raw (fact 𝓤 (Begins r))) (facts.begun_fact W.Denot S.Denot X.Denot gw.contents start w s w.now 𝓛 r) $ heard ! (Begins r) (λ begins. split ! $ move ! (2 ∷ []) $
    split ! $ move ! (1 ∷ []) $ split ! $ move ! (1 ∷ []) $ split ! $ move ! (1 ∷ []) $ split ! $ move ! (1 ∷ []) $ split ! $ move ! (1 ∷ []) $ split ! $ move ! (1 ∷ []) $ drop ! $
    move ! (8 ∷ []) $
    -- [the result; the tokens of κx, κs', κw, κb', κ' and κ₀; the ends of the writer and of the serializer; what is kept of the serializer, and of the writer]
    let Ler : Laws Er = error_laws (param 2 X) (param_laws 2 X LX) in let Llog : Laws Lr = log_laws (named_lft 6 1 tt κs₁) (named_lft 6 2 tt κs₁) R Q (param_laws 0 W LW) (param_laws 1 S LS) in
    let switch' : Body = head (after 3 fn.body) in let Then : After 𝓤 H = any_q (after_seq 𝓤 H (Wp 𝓤 H 𝓣.C 𝓣.Λ Ev (after 4 fn.body) (at_return 𝓤 H Ev Post)) (at_return 𝓤 H Ev Post)) in
    elim (ok_or_err r) [
      | inl ok ↦
          rewrite ! 0 (λ (it : Begun.Denot). ‵ (Begun.own_val it (v ∷ []))) ok.1 refl $
          use1 𝓛 (some (λ (u : Val). given (v ≡ live 0 (of_list (u ∷ []))) (‵ (Lr.own_val ok.0 (u ∷ []))))) (ok_opens 𝓛 Lr Er Llog ok.0 v) $ pick ! (λ u. learn ! (λ is.
          peeks ! Lr (Is Lr) (shows 𝓛 Lr) ok.0 (u ∷ []) (λ is-u. let good-u = ((Llog.lawful 𝓛).typed ok.0 (u ∷ []) is-u).0 in
          lands_as ! is refl (and_tt _ good-u.0, (record { fits = lit< tt }, (good-u.1, tt))) $ first ! $ switches_on ! (get_tag ! (vrt ! refl (fld ! refl (stop !))) (whole !)) $ exec ! 𝓣.C 𝓣.Λ Ev (arm_body 0 switch') Then $
          -- `end` takes the log
          sets ! (of_opd ! (get_in ! (vrt ! refl (fld ! refl (stop !))) (in_variant ! 0 0 refl refl (whole !)))) refl good-u $ sets ! (of_opd ! (get ! refl)) refl good-u $
          let G₂ = triple_of 𝓛 (end.signature W S) (end.spec W S 𝓛 𝓜.mem 𝓡.returns) in
          let z₂ : G₂.Ghost = (((κ', (κb', (κw, (κs', tt)))), (p, (pb, (qw, (qs', tt)))), (Incl-trans (meet_⊑_right (α ∷ []) κ) bounds.0, (Incl-trans (meet_⊑_right (β ∷ []) κb) bounds.1.0, tt)), (ok.0, tt), (u ∷ [], tt)), tt) in
          nothing ! $ move ! (1 ∷ 0 ∷ []) $ join ! $ nothing ! $ move ! (6 ∷ 5 ∷ 4 ∷ 3 ∷ 0 ∷ []) $ group ! 5 $ join ! $
          nothing ! $ noted ! (κs' ⊑ S.lives) in-s $ join ! $ noted ! (κw ⊑ W.lives) in-w $ join ! $ move ! (1 ∷ 0 ∷ []) $ join ! $ use1 𝓛 (raw (G₂.pre z₂)) (id⊢ 𝓤 _) $
          calls_at ! (framed 𝓤 H 𝓜 𝓣) G₂ (end_met.met 𝓤 𝓛 𝓜 𝓡 (code.calls-hdr_surface::after_errors::end 𝓡.env wired) W S LW LS) z₂ (and_then ! (get ! refl) (no_more !)) (λ v₂.
          use1 𝓛 (later (some (λ (n : Unit {0}). ((‵ (flft κ' p) ⊛ ‵ (flft κb' pb) ⊛ ‵ (flft κw qw) ⊛ ‵ (flft κs' qs') ⊛ ‵ ftrue) ⊛ ‵ (unit.own_val n (v₂ ∷ []))) ⊛
          some (λ (ws₂ : Lasts (end.ended W S) z₂.0.0 z₂.0.3). ‵ (lasts (end.ended W S) z₂.0.0 z₂.0.3 ws₂) ⊛ raw (fact 𝓤 (ws₂.0.0 ≡ (sink ok.0).now)) ⊛ raw (fact 𝓤 (ws₂.0.1.0 ≡ (serializer_of ok.0).now)))))) (id⊢ 𝓤 _) $
          await ! tt $ pick ! (λ n. split ! $ split ! $ move ! (2 ∷ []) $ pick ! (λ ws₂. let new : W.Denot = ws₂.0.0 in let new-s : S.Denot = ws₂.0.1.0 in
          split ! $ move ! (1 ∷ []) $ split ! $ heard ! (new ≡ (sink ok.0).now) (λ is-new. heard ! (new-s ≡ (serializer_of ok.0).now) (λ is-new-s.
          fsplit ! $ fsplit ! $ fsplit ! $ move ! (2 ∷ []) $ fsplit ! $ fsplit ! $
          -- [the last value of the serializer, its borrow; nothing; the last value of the writer, its borrow; nothing; the tokens; the result; the tokens of κx and κ₀; both ends; what is kept of the serializer, and of the writer]
          move ! (7 ∷ []) $ feq_l ! (λ is-unit.
          lands_as ! (ap only is-unit) refl (tt, tt) $ sets_last ! (agg ! (and_then ! (lit ! tt) (and_then ! (unit_lit !) (no_more !)))) refl (tt, (record { fits = lit< tt }, (tt, tt))) $
          exec ! 𝓣.C 𝓣.Λ Ev (after 4 fn.body) (at_ret Ev Post) $ sets ! (of_opd ! (get ! refl)) refl (tt, (record { fits = lit< tt }, (tt, tt))) $
          move ! (6 ∷ []) $ split ! $ move ! (1 ∷ []) $ split ! $ move ! (1 ∷ []) $ split ! $ move ! (1 ∷ []) $ split ! $ move ! (1 ∷ []) $ drop ! $
          -- [the tokens of κs', κw, κb' and κ'; the last value of the serializer, ..]
          let begun = subst Begins ok.1 begins in
          move ! (7 ∷ []) $ rewrite ! 0 (λ (n : GName). ‵ (fres n (R.coded.code new))) (subst (λ (it : Begun.Denot). IfOk it (λ x. name-w x ≡ δ)) ok.1 same-w) refl $
          move ! (4 ∷ 15 ∷ 0 ∷ []) $ ends ! tt R (named 1) κ q w α δ new $
          move ! (5 ∷ []) $ rewrite ! 0 (λ (n : GName). ‵ (fres n (Q.coded.code new-s))) (subst (λ (it : Begun.Denot). IfOk it (λ x. name-s x ≡ ε)) ok.1 same-s) refl $
          move ! (5 ∷ 14 ∷ 0 ∷ []) $ ends ! tt Q (named 2) κb qb s β ε new-s $
          -- [the serializer; the token of κb; the writer; the tokens of κ, κs' and κw; two borrows that are over; the tokens of κx and κ₀; both ends]
          returns ! (look_at ! 0 refl) $ free_all ! refl $ let v₀ : Val = live 0 (of_list (vunit ∷ [])) in let out : Out.Denot = Ok tt in
          feq_i ! (List Val) (vunit ∷ []) (vunit ∷ []) refl $ use1 𝓛 (‵ (Out.own_val out (v₀ ∷ []))) (ok_of 𝓛 unit Er tt vunit) $
          nothing ! $ move ! (13 ∷ 5 ∷ 3 ∷ 7 ∷ 6 ∷ 12 ∷ 0 ∷ []) $ group ! 7 $ nothing ! $ move ! (3 ∷ 0 ∷ []) $ fjoin ! $ move ! (3 ∷ 0 ∷ []) $ fjoin ! $ nothing ! $ fjoin ! $
          let left-w : WritesText (IsStartText start) (λ _. ⊥) (gw.contents w.now) (gw.contents new) out = (begun.written.0, begun.written.1, subst (λ x. Appends (gw.contents w.now) (gw.contents x) begun.written.0) (sym is-new) begun.written.2) in
          noted ! _ begun.time $ noted ! (new-s ≡ s.now) (is-new-s ∙ begun.lent.0) $ join ! $ noted ! _ left-w $ join ! $
          keep ! (2 ∷ 1 ∷ 3 ∷ 0 ∷ []) $ by ! (leaves 𝓛 En hs c y v₀ out (tt, (new, (new-s, tt))) (tt, (tt, (tt, tt)))))))))))))
      | inr err ↦
          rewrite ! 0 (λ (it : Begun.Denot). ‵ (Begun.own_val it (v ∷ []))) err.1 refl $
          use1 𝓛 (some (λ (u : Val). given (v ≡ live 1 (of_list (u ∷ []))) (‵ (Er.own_val err.0 (u ∷ []))))) (err_opens 𝓛 Lr Er Ler err.0 v) $ pick ! (λ u. learn ! (λ is.
          peeks ! Er (Is Er) (shows 𝓛 Er) err.0 (u ∷ []) (λ is-u. let good-u = ((Ler.lawful 𝓛).typed err.0 (u ∷ []) is-u).0 in
          lands_as ! is refl (and_tt _ good-u.0, (record { fits = lit< tt }, (good-u.1, tt))) $ first ! $ switches_on ! (get_tag ! (vrt ! refl (fld ! refl (stop !))) (whole !)) $ exec ! 𝓣.C 𝓣.Λ Ev (arm_body 1 switch') Then $
          sets ! (of_opd ! (get_in ! (vrt ! refl (fld ! refl (stop !))) (in_variant ! 1 0 refl refl (whole !)))) refl good-u $ sets ! (of_opd ! (get ! refl)) refl good-u $
          sets_last ! (agg ! (and_then ! (lit ! tt) (and_then ! (get ! refl) (no_more !)))) refl (and_tt _ good-u.0, (record { fits = lit< tt }, (good-u.1, tt))) $
          exec ! 𝓣.C 𝓣.Λ Ev (after 4 fn.body) (at_ret Ev Post) $ sets ! (of_opd ! (get ! refl)) refl (and_tt _ good-u.0, (record { fits = lit< tt }, (good-u.1, tt))) $
          -- the clause `left` says what both have
          let Left-w = λ (last : W.Denot). WriteFails (IsStartText start) (λ _. ⊥) (gw.contents w.now) (gw.contents last) err.0 in let Left-s = λ (last : S.Denot). last ≡ s.now in
          move ! (7 ∷ []) $ rewrite ! 0 (λ (it : Begun.Denot). ‵ (writer_rests R gw.contents start w₁ it)) err.1 refl $
          use1 𝓛 (some (λ (new : W.Denot). given (Left-w new) (‵ (fres δ (R.coded.code new))))) (rests_at_err 𝓛 R w₁ (IntervalLogWriterError X.Denot) name-w Left-w err.0) $ pick ! (λ new. learn ! (λ left-w.
          move ! (6 ∷ 10 ∷ 0 ∷ []) $ ends ! tt R (named 1) κ q w α δ new $
          move ! (8 ∷ []) $ rewrite ! 0 (λ (it : Begun.Denot). ‵ (serializer_rests Q s₁ it)) err.1 refl $
          use1 𝓛 (some (λ (new-s : S.Denot). given (Left-s new-s) (‵ (fres ε (Q.coded.code new-s))))) (rests_at_err 𝓛 Q s₁ (IntervalLogWriterError X.Denot) name-s Left-s err.0) $ pick ! (λ new-s. learn ! (λ left-s.
          move ! (7 ∷ 9 ∷ 0 ∷ []) $ ends ! tt Q (named 2) κb qb s β ε new-s $
          -- [the serializer; the token of κb; the writer; the token of κ; the error; the tokens of κx, κs', κw and κ₀]
          returns ! (look_at ! 0 refl) $ free_all ! refl $ let v₀ : Val = live 1 (of_list (u ∷ [])) in let out : Out.Denot = Err err.0 in
          move ! (4 ∷ []) $ use1 𝓛 (‵ (Out.own_val out (v₀ ∷ []))) (err_of 𝓛 unit Er err.0 u) $
          nothing ! $ move ! (9 ∷ 5 ∷ 3 ∷ 8 ∷ 7 ∷ 6 ∷ 0 ∷ []) $ group ! 7 $ nothing ! $ move ! (3 ∷ 0 ∷ []) $ fjoin ! $ move ! (3 ∷ 0 ∷ []) $ fjoin ! $ nothing ! $ fjoin ! $
          let time = subst (λ x. (x ≡ false) ↔ AreTimesInRange start) (facts.same_time (IntervalLogWriter W.Denot S.Denot) (Unit {0}) err.0) (subst Begins err.1 begins).time in
          noted ! _ time $ noted ! _ left-s $ join ! $ noted ! _ left-w $ join ! $ keep ! (2 ∷ 1 ∷ 3 ∷ 0 ∷ []) $ by ! (leaves 𝓛 En hs c y v₀ out (tt, (new, (new-s, tt))) (tt, (tt, (tt, tt)))))))))))
    ])))))))))))))
