-- `begin_log_with` lends the writer to `write_headers`. Then `continue_log` takes it, or there is an error.
use mathlib.Core.Logic.{inl, inr}
use mathlib.Core.Path.{◌≡◌, refl, subst}
use mathlib.Core.List.{[], ◌∷◌}
use lib.Dec.{lit<}
use mir.Syntax.{Body, a_type, dcons, dnil, named}
use mir.MapTy.{inst_fn}
use mir.Val.{Val, vptr, of_list}
use base.Fml.{Fml, Lft, Share, ftrue, flft, fres, Incl-trans}
use base.Logic.{SProp, id⊢}
use contract.BorrowLft.{◌⊑◌, meet_⊑_right}
use contract.Monad.{fact}
use contract.Running.{tables}
use prog.Wp.{Wp, after_seq, at_return}
use types.Kit.{Post as After, any_q, at_ret, ‵, raw, ◌⊛◌, some, later, given, ◌$◌, ◌∵◌, !, qed, by, move, keep, drop, use0, use1, split, join, fsplit, fjoin, group, pick, await, learn, rewrite}
use types.Match.{live, vrt, in_variant}
use types.Part.{whole, agg}
use types.Run.{addr, fld, lit, stop, of_opd, and_then, no_more, enter, exec, first, switches_on, returns}
use types.ByLocal.{alloc_all, pass_all, free_all, get, get_in, get_tag, look_at, through, sets, sets_last, lands_as, env}
use denote.Exit.{yes, no}
use denote.Laws.{Is, shows}
use denote.RattleType.{RattleType}
use denote.Signature.{plain, named_lft}
use denote.Struct.Field.{unit-field}
use denote.Struct.Laws.{unit-laws, unit-copy}
use denote.Builtin.{RefOf, RefMutOf, unit}
use denote.Ref.{MutBor, ShrRef, mut_vals, mut_Tells, shr_vals, shr_Tells, shr_copy}
use denote.Param.{param, bounded}
use denote.Param.Laws.{Laws, param_laws, of_field}
use denote.Param.Shared.{copy_shared}
use denote.Steps.{nothing, heard, peeks}
use denote.Triple.Call.{calls_at}
use denote.Triple.Clauses.{Lasts, lasts}
use denote.Triple.Spec.{triple_of}
use denote.Triple.Table.{framed}
use denote.Triple.Walked.{Stays, stay_dropped, walk_of, Goes-dropped, Goes-spent_ref}
use Rattle.std.proofs.Common.{Ok, Err}
use Rattle.std.specs.Prelude.{⊤}
use Rattle.std.proofs.ResultValues.{and_tt, ok_of, err_of}
use Rattle.std.proofs.VecSteps.Shapes.{after, head, arm_body}
use Rattle.std.proofs.raw_atomic.Walks.{proved, leaves}
use Rattle.std.specs.contracts.result.Result as result
use Rattle.hdrhistogram.proofs.BorrowLoans.{Ref, part, lends, ends}
use Rattle.hdrhistogram.proofs.BorrowRests.{rests_ok, rests_err}
use Rattle.hdrhistogram.proofs.FactSteps.{noted}
use Rattle.hdrhistogram.proofs.LogLendingFacts as facts
use Rattle.hdrhistogram.proofs.ResultCases.{ok_or_err, ok_opens, err_opens}
use Rattle.hdrhistogram.specs.LogLeaving.{WriteFails, WritesText}
use Rattle.hdrhistogram.specs.LogLending.{writer_rests, serializer_rests}
use Rattle.hdrhistogram.specs.LogStarts.{new_start, IsStartText}
use Rattle.hdrhistogram.specs.LogWriters.{sink, serializer_of, divisor_of}
use Rattle.hdrhistogram.specs.declared.serialization.interval_log.writer.IntervalLogWriter.{IntervalLogWriter}
use Rattle.hdrhistogram.specs.declared.serialization.interval_log.errors.IntervalLogWriterError.{IntervalLogWriterError}
use Rattle.hdrhistogram.specs.contracts.serialization.interval_log.errors.IntervalLogWriterError as error
use Rattle.hdrhistogram.proofs.serialization.interval_log.errors.IntervalLogWriterError.TheLaws.{the_row_laws as error_laws}
use Rattle.hdrhistogram.specs.contracts.serialization.interval_log.writer.IntervalLogWriter as log
use Rattle.hdrhistogram.proofs.serialization.interval_log.writer.IntervalLogWriter.TheLaws.{the_row_laws as log_laws}
use Rattle.hdrhistogram.proofs.serialization.interval_log.builder.IntervalLogWriterBuilder.TheLaws as builder_laws
use Rattle.hdrhistogram.specs.contracts.serialization.interval_log.builder.IntervalLogWriterBuilder as builder
use Rattle.hdrhistogram.specs.contracts.serialization.interval_log.builder.IntervalLogWriterBuilder.write_headers as write_headers
use Rattle.hdrhistogram.proofs.serialization.interval_log.builder.IntervalLogWriterBuilder.write_headers.Met as write_headers_met
use Rattle.hdrhistogram.specs.contracts.serialization.interval_log.builder.IntervalLogWriterBuilder.continue_log as continue_log
use Rattle.hdrhistogram.proofs.serialization.interval_log.builder.IntervalLogWriterBuilder.continue_log.Met as continue_log_met
use Rattle.hdrhistogram.specs.contracts.serialization.interval_log.builder.IntervalLogWriterBuilder.begin_log_with.{ended, clauses}
use Rattle.hdrhistogram.specs.contracts.serialization.interval_log.builder.IntervalLogWriterBuilder.begin_log_with.Key.{name as #self}
use Rattle.hdrhistogram.proofs.serialization.interval_log.builder.IntervalLogWriterBuilder.begin_log_with.Statement.{statement}
use Rattle.hdrhistogram.proofs.serialization.interval_log.builder.IntervalLogWriterBuilder.begin_log_with.Code as code

unit_laws : Laws unit
unit_laws = of_field unit-field unit-laws refl (copy_shared unit-field unit-copy)

pub begin_log_with_spec : {M : Type 1} → statement M
begin_log_with_spec 𝓤 𝓛 𝓜 𝓡 wired W S X LW LS LX gw dw gs ds dx mw ms mx =
    let H = 𝓛.H in let 𝓣 = tables 𝓤 H 𝓜 𝓡 𝓡.env in
    let B : RattleType = builder.the_row in let R : RattleType = param 0 W in let Q : RattleType = param 1 S in let Er : RattleType = error.the_row (param 2 X) in
    let En = ended W S X gw dw gs ds dx in let c = clauses W S X gw dw gs ds dx 𝓛 𝓜.mem 𝓡.returns in
    let inst = bounded (a_type ∷ a_type ∷ a_type ∷ []) (W, (S, (X, tt))) (dcons dw (dcons ds (dcons dx dnil))) in let fn = inst_fn inst code.function in
    let self = RefOf (0 ∷ []) tt (plain (λ _. B)) (λ _. tt) in
    let hs : Stays En.signature.params En.kept = (stay_dropped self yes, (stay_dropped (RefMutOf (1 ∷ []) tt (plain (λ _. R)) (λ _. tt)) no, (stay_dropped (RefMutOf (2 ∷ []) tt (plain (λ _. Q)) (λ _. tt)) no, tt))) in
    proved 𝓛 En hs c 𝓜 𝓡 (Goes-dropped 𝓛 6 self yes (λ κs x f. refl), (Goes-spent_ref 𝓛 6 (1 ∷ []) tt (plain (λ _. R)), (Goes-spent_ref 𝓛 6 (2 ∷ []) tt (plain (λ _. Q)), tt))) (#self inst) fn
    (code.unfolded 𝓤 H 𝓜 𝓡 wired (W, (S, (X, tt))) dw ds dx)
    (λ κs. (shr_vals, (mut_vals, (mut_vals, tt)))) (λ κs. (shr_Tells (named 0) κs.0 B, (mut_Tells (named 1) κs.1.0 R, (mut_Tells (named 2) κs.1.1.0 Q, tt))))
    (λ κs qs bounds a g are.
    let κ₀ : Lft = κs.0 in let κ : Lft = κs.1.0 in let κb : Lft = κs.1.1.0 in let κw : Lft = κs.1.1.1.0 in let κs' : Lft = κs.1.1.1.1.0 in let κx : Lft = κs.1.1.1.1.1.0 in
    let q₀ : Share = qs.0 in let q : Share = qs.1.0 in let qb : Share = qs.1.1.0 in let qw : Share = qs.1.1.1.0 in let qs' : Share = qs.1.1.1.1.0 in let qx : Share = qs.1.1.1.1.1.0 in
    let start = a.0.now in let w : MutBor R.Denot = a.1.0 in let s : MutBor Q.Denot = a.1.1.0 in
    let y : (walk_of 𝓛 En hs c).Ghost = ((κs, qs, bounds, a, (shr_vals a.0, (mut_vals w, (mut_vals s, tt)))), g) in let Post : Val → SProp 𝓤 = (walk_of 𝓛 En hs c).post y in
    let Self : Fml = (ShrRef (named 0) κ₀ B).own_val a.0 (shr_vals a.0) in
    qed 𝓛 (((‵ (flft κ₀ q₀) ⊛ ‵ (flft κ q) ⊛ ‵ (flft κb qb) ⊛ ‵ (flft κw qw) ⊛ ‵ (flft κs' qs') ⊛ ‵ (flft κx qx) ⊛ ‵ ftrue) ⊛ (‵ Self ⊛ ‵ (Ref R (named 1) κ w) ⊛ ‵ (Ref Q (named 2) κb s) ⊛ ‵ ftrue))
    ∷ raw (fact 𝓤 (κw ⊑ W.lives)) ∷ raw (fact 𝓤 (κs' ⊑ S.lives)) ∷ raw (fact 𝓤 (κx ⊑ X.lives)) ∷ ‵ ftrue ∷ []) ∵
    move ! (1 ∷ 2 ∷ 3 ∷ []) $ heard ! (κw ⊑ W.lives) (λ in-w. heard ! (κs' ⊑ S.lives) (λ in-s. heard ! (κx ⊑ X.lives) (λ in-x.
    split ! $ split ! $ move ! (1 ∷ []) $ split ! $ move ! (1 ∷ []) $ split ! $ move ! (1 ∷ []) $ split ! $ move ! (1 ∷ []) $ split ! $ move ! (1 ∷ []) $ split ! $
    move ! (7 ∷ []) $ split ! $ move ! (1 ∷ []) $ split ! $ move ! (1 ∷ []) $ split ! $ keep ! (3 ∷ 2 ∷ 0 ∷ 10 ∷ 9 ∷ 8 ∷ 7 ∷ 6 ∷ 4 ∷ []) $
    -- [self; the writer; the serializer; the tokens of κ₀, κ, κb, κw, κs' and κx]
    use1 𝓛 (‵ Self ⊛ ‵ Self) ((shr_copy 𝓛 (named 0) κ₀ B builder_laws.the_row_laws.shr_laws).twice a.0 (shr_vals a.0)) $ split ! $
    enter ! 𝓣.C 𝓣.Λ fn (vptr a.0.ref_ptr.0 a.0.ref_ptr.1 ∷ vptr w.ref_ptr.0 w.ref_ptr.1 ∷ vptr s.ref_ptr.0 s.ref_ptr.1 ∷ []) Post $
    alloc_all ! (λ l. pass_all ! refl ((tt, tt), ((tt, tt), ((tt, tt), tt))) $ let Ev = env fn.locals l in
    -- `write_headers` borrows the writer
    sets ! (addr ! (through ! refl (stop !))) refl (tt, tt) $
    move ! (2 ∷ 5 ∷ []) $ lends ! tt R (named 1) κ q w (λ α δ. let κ' : Lft = α ∷ κ in let p : Share = part q in
    -- [the token of κ'; the loan; what is kept; self; self; the serializer; the tokens of κ₀, κb, κw, κs' and κx]
    let G = triple_of 𝓛 (write_headers.signature W X) (write_headers.spec W X gw dw 𝓛 𝓜.mem 𝓡.returns) in
    let z : G.Ghost = (((κ₀, (κ', (κw, (κx, tt)))), (q₀, (p, (qw, (qx, tt)))), (Incl-trans (meet_⊑_right (α ∷ []) κ) bounds.0, tt), (a.0, (record w { ghost_name = δ }, tt)), (shr_vals a.0, (mut_vals w, tt))), tt) in
    nothing ! $ move ! (7 ∷ 1 ∷ 9 ∷ 11 ∷ 0 ∷ []) $ group ! 5 $ nothing ! $ move ! (4 ∷ 2 ∷ 0 ∷ []) $ group ! 3 $
    nothing ! $ noted ! (κx ⊑ X.lives) in-x $ join ! $ noted ! (κw ⊑ W.lives) in-w $ join ! $ move ! (2 ∷ 1 ∷ 0 ∷ []) $ join ! $ join ! $ use1 𝓛 (raw (G.pre z)) (id⊢ 𝓤 _) $
    calls_at ! (framed 𝓤 H 𝓜 𝓣) G (write_headers_met.met 𝓤 𝓛 𝓜 𝓡 (code.calls-hdrhistogram::serialization::interval_log::builder::IntervalLogWriterBuilder::write_headers 𝓡.env wired) W X LW LX gw dw mw) z
    (and_then ! (get ! refl) (and_then ! (get ! refl) (no_more !))) (λ v.
    let Done : RattleType = result.the_row unit Er in let Lr : RattleType = log.the_row (named_lft 6 1 tt κs) (named_lft 6 2 tt κs) R Q in let Out : RattleType = result.the_row Lr Er in
    let Leaves = λ (new : W.Denot) (r : Done.Denot). WritesText (IsStartText start) (λ _. ⊥) (gw.contents w.now) (gw.contents new) r in let Timed = λ (r : Done.Denot). facts.IsTimeError W.Denot S.Denot X.Denot gw.contents start w s w.now r in
    let Plain = λ (r : Done.Denot). start ≡ new_start → r ≡ Ok tt in
    use1 𝓛 (later (some (λ (r : Done.Denot). ((‵ (flft κ₀ q₀) ⊛ ‵ (flft κ' p) ⊛ ‵ (flft κw qw) ⊛ ‵ (flft κx qx) ⊛ ‵ ftrue) ⊛ ‵ (Done.own_val r (v ∷ []))) ⊛
    some (λ (ws : Lasts (write_headers.ended W X gw dw) z.0.0 z.0.3). ‵ (lasts (write_headers.ended W X gw dw) z.0.0 z.0.3 ws) ⊛ raw (fact 𝓤 (Leaves ws.1.0 r)) ⊛ raw (fact 𝓤 (Timed r)) ⊛ raw (fact 𝓤 (Plain r)))))) (id⊢ 𝓤 _) $
    await ! tt $ pick ! (λ r. split ! $ split ! $ move ! (2 ∷ []) $ pick ! (λ ws. let new : W.Denot = ws.1.0 in split ! $ fsplit ! $ drop ! $ fsplit ! $ fsplit ! $
    move ! (3 ∷ []) $ split ! $ heard ! (Leaves new r) (λ written. split ! $ heard ! (Timed r) (λ timed. heard ! (Plain r) (λ plain'.
    let headed : facts.Headed W.Denot S.Denot X.Denot gw.contents start w s new r = record { leaves = written; time = timed; plain = plain' } in
    move ! (1 ∷ 2 ∷ []) $ drop ! $ drop ! $ move ! (1 ∷ []) $
    split ! $ move ! (1 ∷ []) $ split ! $ move ! (1 ∷ []) $ split ! $ move ! (1 ∷ []) $ split ! $ move ! (1 ∷ []) $ drop ! $
    move ! (2 ∷ 6 ∷ 4 ∷ []) $ ends ! tt R (named 1) κ q w α δ new $ move ! (5 ∷ []) $
    -- [the result; the writer; the tokens of κ, κx, κw and κ₀; self; the serializer; the tokens of κb and κs']
    let w' : MutBor R.Denot = record w { now = new } in
    let Ler : Laws Er = error_laws (param 2 X) (param_laws 2 X LX) in let Llog : Laws Lr = log_laws (named_lft 6 1 tt κs) (named_lft 6 2 tt κs) R Q (param_laws 0 W LW) (param_laws 1 S LS) in
    let name-w = λ (it : IntervalLogWriter W.Denot S.Denot). (sink it).ghost_name in let name-s = λ (it : IntervalLogWriter W.Denot S.Denot). (serializer_of it).ghost_name in
    let switch' : Body = head (after 2 fn.body) in let Then : After 𝓤 H = any_q (after_seq 𝓤 H (Wp 𝓤 H 𝓣.C 𝓣.Λ Ev (after 3 fn.body) (at_return 𝓤 H Ev Post)) (at_return 𝓤 H Ev Post)) in
    elim (ok_or_err r) [
      | inl ok ↦
          rewrite ! 0 (λ (it : Done.Denot). ‵ (Done.own_val it (v ∷ []))) ok.1 refl $
          use1 𝓛 (some (λ (u : Val). given (v ≡ live 0 (of_list (u ∷ []))) (‵ (unit.own_val ok.0 (u ∷ []))))) (ok_opens 𝓛 unit Er unit_laws ok.0 v) $ pick ! (λ u. learn ! (λ is.
          peeks ! unit (Is unit) (shows 𝓛 unit) ok.0 (u ∷ []) (λ is-u. let good-u = ((unit_laws.lawful 𝓛).typed ok.0 (u ∷ []) is-u).0 in
          lands_as ! is refl (and_tt _ good-u.0, (record { fits = lit< tt }, (good-u.1, tt))) $ drop ! $ first ! $ switches_on ! (get_tag ! (vrt ! refl (fld ! refl (stop !))) (whole !)) $ exec ! 𝓣.C 𝓣.Λ Ev (arm_body 0 switch') Then $
          -- `continue_log` takes the writer and the serializer
          sets ! (addr ! (through ! refl (stop !))) refl (tt, tt) $ sets ! (addr ! (through ! refl (stop !))) refl (tt, tt) $
          let G₂ = triple_of 𝓛 (continue_log.signature W S X) (continue_log.spec W S X gw dw gs ds dx 𝓛 𝓜.mem 𝓡.returns) in
          let z₂ : G₂.Ghost = ((κs, qs, bounds, (a.0, (w', (s, tt))), (shr_vals a.0, (mut_vals w, (mut_vals s, tt)))), tt) in
          nothing ! $ move ! (5 ∷ 2 ∷ 8 ∷ 4 ∷ 9 ∷ 3 ∷ 0 ∷ []) $ group ! 7 $ nothing ! $ move ! (3 ∷ 2 ∷ 4 ∷ 0 ∷ []) $ group ! 4 $
          nothing ! $ noted ! (κx ⊑ X.lives) in-x $ join ! $ noted ! (κs' ⊑ S.lives) in-s $ join ! $ noted ! (κw ⊑ W.lives) in-w $ join ! $ move ! (2 ∷ 1 ∷ 0 ∷ []) $ join ! $ join ! $ use1 𝓛 (raw (G₂.pre z₂)) (id⊢ 𝓤 _) $
          calls_at ! (framed 𝓤 H 𝓜 𝓣) G₂ (continue_log_met.met 𝓤 𝓛 𝓜 𝓡 (code.calls-hdrhistogram::serialization::interval_log::builder::IntervalLogWriterBuilder::continue_log 𝓡.env wired) W S X LW LS LX gw dw gs ds dx mw ms mx) z₂
          (and_then ! (get ! refl) (and_then ! (get ! refl) (and_then ! (get ! refl) (no_more !)))) (λ v₂.
          let Lent = λ (it : Lr.Denot). ((serializer_of it).now ≡ s.now) × (divisor_of it ≡ start.divisor) in
          use1 𝓛 (later (some (λ (it : Lr.Denot). ((‵ (flft κ₀ q₀) ⊛ ‵ (flft κ q) ⊛ ‵ (flft κb qb) ⊛ ‵ (flft κw qw) ⊛ ‵ (flft κs' qs') ⊛ ‵ (flft κx qx) ⊛ ‵ ftrue) ⊛ ‵ (Lr.own_val it (v₂ ∷ []))) ⊛
          some (λ (ws₂ : Lasts (continue_log.ended W S X gw dw gs ds dx) z₂.0.0 z₂.0.3). ‵ (lasts (continue_log.ended W S X gw dw gs ds dx) z₂.0.0 z₂.0.3 ws₂) ⊛
          raw (fact 𝓤 (name-w it ≡ w.ghost_name)) ⊛ raw (fact 𝓤 (name-s it ≡ s.ghost_name)) ⊛ raw (fact 𝓤 ((sink it).now ≡ new)) ⊛ raw (fact 𝓤 (Lent it)))))) (id⊢ 𝓤 _) $
          await ! tt $ pick ! (λ it. split ! $ split ! $ move ! (2 ∷ []) $ pick ! (λ ws₂. split ! $ drop ! $ split ! $
          heard ! (name-w it ≡ w.ghost_name) (λ same-w. split ! $ heard ! (name-s it ≡ s.ghost_name) (λ same-s. split ! $ heard ! ((sink it).now ≡ new) (λ holds. heard ! (Lent it) (λ lent.
          -- [the tokens; the log]
          move ! (1 ∷ []) $ peeks ! Lr (Is Lr) (shows 𝓛 Lr) it (v₂ ∷ []) (λ is₂. let good = ((Llog.lawful 𝓛).typed it (v₂ ∷ []) is₂).0 in
          lands_as ! refl refl good $ sets_last ! (agg ! (and_then ! (lit ! tt) (and_then ! (get ! refl) (no_more !)))) refl (and_tt _ good.0, (record { fits = lit< tt }, (good.1, tt))) $
          exec ! 𝓣.C 𝓣.Λ Ev (after 3 fn.body) (at_ret Ev Post) $ sets ! (of_opd ! (get ! refl)) refl (and_tt _ good.0, (record { fits = lit< tt }, (good.1, tt))) $
          returns ! (look_at ! 0 refl) $ free_all ! refl $ let v₀ : Val = live 0 (of_list (v₂ ∷ [])) in let out : Out.Denot = Ok it in
          use1 𝓛 (‵ (Out.own_val out (v₀ ∷ []))) (ok_of 𝓛 Lr Er it v₂) $
          let begun = facts.begun W.Denot S.Denot X.Denot gw.contents start w s new ok.0 (subst (λ x. facts.Headed W.Denot S.Denot X.Denot gw.contents start w s new x) ok.1 headed) it holds lent in
          noted ! _ begun.no_serialize_error $ noted ! _ begun.plain $ join ! $ noted ! _ begun.time $ join ! $ noted ! _ begun.lent $ join ! $ noted ! _ begun.written $ join ! $ noted ! _ same-s $ join ! $ noted ! _ same-w $ join ! $
          use0 𝓛 (‵ (serializer_rests Q s out)) (rests_ok 𝓛 Q s (IntervalLogWriterError X.Denot) name-s (λ last. last ≡ s.now) it same-s) $
          use0 𝓛 (‵ (writer_rests R gw.contents start w out)) (rests_ok 𝓛 R w (IntervalLogWriterError X.Denot) name-w (λ last. ⊤) it same-w) $ fjoin ! $ join ! $
          nothing ! $ nothing ! $ fjoin ! $ nothing ! $ fjoin ! $ nothing ! $ fjoin ! $ keep ! (3 ∷ 0 ∷ 2 ∷ 1 ∷ []) $ by ! (leaves 𝓛 En hs c y v₀ out (tt, (tt, (tt, tt))) (tt, (tt, (tt, tt)))))))))))))))
      | inr err ↦
          rewrite ! 0 (λ (it : Done.Denot). ‵ (Done.own_val it (v ∷ []))) err.1 refl $
          use1 𝓛 (some (λ (u : Val). given (v ≡ live 1 (of_list (u ∷ []))) (‵ (Er.own_val err.0 (u ∷ []))))) (err_opens 𝓛 unit Er Ler err.0 v) $ pick ! (λ u. learn ! (λ is.
          peeks ! Er (Is Er) (shows 𝓛 Er) err.0 (u ∷ []) (λ is-u. let good-u = ((Ler.lawful 𝓛).typed err.0 (u ∷ []) is-u).0 in
          lands_as ! is refl (and_tt _ good-u.0, (record { fits = lit< tt }, (good-u.1, tt))) $ first ! $ switches_on ! (get_tag ! (vrt ! refl (fld ! refl (stop !))) (whole !)) $ exec ! 𝓣.C 𝓣.Λ Ev (arm_body 1 switch') Then $
          sets ! (of_opd ! (get_in ! (vrt ! refl (fld ! refl (stop !))) (in_variant ! 1 0 refl refl (whole !)))) refl good-u $ sets ! (of_opd ! (get ! refl)) refl good-u $
          sets_last ! (agg ! (and_then ! (lit ! tt) (and_then ! (get ! refl) (no_more !)))) refl (and_tt _ good-u.0, (record { fits = lit< tt }, (good-u.1, tt))) $
          exec ! 𝓣.C 𝓣.Λ Ev (after 3 fn.body) (at_ret Ev Post) $ sets ! (of_opd ! (get ! refl)) refl (and_tt _ good-u.0, (record { fits = lit< tt }, (good-u.1, tt))) $
          returns ! (look_at ! 0 refl) $ free_all ! refl $ let v₀ : Val = live 1 (of_list (u ∷ [])) in let out : Out.Denot = Err err.0 in
          use1 𝓛 (‵ (Out.own_val out (v₀ ∷ []))) (err_of 𝓛 Lr Er err.0 u) $
          let headed' = subst (λ x. facts.Headed W.Denot S.Denot X.Denot gw.contents start w s new x) err.1 headed in let begun = facts.failed W.Denot S.Denot X.Denot gw.contents start w s new err.0 headed' in
          -- what is behind the writer and the serializer is their last value
          move ! (1 ∷ []) $ fsplit ! $ drop ! $ fsplit ! $ use1 𝓛 (‵ (fres w.ghost_name (R.coded.code new))) (𝓛.names.obs-res w.ghost_name (R.coded.code new)) $
          use1 𝓛 (‵ (writer_rests R gw.contents start w out)) (rests_err 𝓛 R w (IntervalLogWriterError X.Denot) name-w (λ last. WriteFails (IsStartText start) (λ _. ⊥) (gw.contents w.now) (gw.contents last) err.0) err.0 new headed'.leaves) $
          move ! (8 ∷ []) $ fsplit ! $ drop ! $ fsplit ! $ use1 𝓛 (‵ (fres s.ghost_name (Q.coded.code s.now))) (𝓛.names.obs-res s.ghost_name (Q.coded.code s.now)) $
          use1 𝓛 (‵ (serializer_rests Q s out)) (rests_err 𝓛 Q s (IntervalLogWriterError X.Denot) name-s (λ last. last ≡ s.now) err.0 s.now refl) $ move ! (2 ∷ 0 ∷ []) $ fjoin ! $
          nothing ! $ move ! (8 ∷ 5 ∷ 10 ∷ 7 ∷ 11 ∷ 6 ∷ 0 ∷ []) $ group ! 7 $
          noted ! _ begun.no_serialize_error $ noted ! _ begun.plain $ join ! $ noted ! _ begun.time $ join ! $ noted ! _ begun.lent $ join ! $ noted ! _ begun.written $ join ! $ noted ! ⊤ tt $ join ! $ noted ! ⊤ tt $ join ! $
          move ! (2 ∷ 0 ∷ []) $ join ! $ nothing ! $ nothing ! $ fjoin ! $ nothing ! $ fjoin ! $ nothing ! $ fjoin ! $ keep ! (2 ∷ 0 ∷ 5 ∷ 1 ∷ []) $ by ! (leaves 𝓛 En hs c y v₀ out (tt, (tt, (tt, tt))) (tt, (tt, (tt, tt)))))))
    ]))))))))))))
