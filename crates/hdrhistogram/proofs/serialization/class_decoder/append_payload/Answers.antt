use Rattle.std.proofs.Common.{ℕ, ◌+◌, ◌-◌, ◌^◌, arith, rules, ap, refl, map, length, take, drop, length-take, length-drop, sym, ◌∙◌, subst, w64}
use Rattle.std.proofs.lemmas.List.{take_rest}
use Rattle.std.proofs.lemmas.Int.{to_z-of_z}
use Rattle.std.proofs.lemmas.Result.{err_from_is_err_and}
use mir.Val.{SFits}
use Rattle.hdrhistogram.specs.ClassesRead.{times_of}
use Rattle.hdrhistogram.specs.Defects.{defect_of_error, FailsBy}
use Rattle.hdrhistogram.specs.PayloadRead.{IsCut, counts_in}
use Rattle.hdrhistogram.proofs.VarintSpellings.{some_byte}
use Rattle.hdrhistogram.proofs.PayloadReadFilling.{fails_so}
use Rattle.hdrhistogram.proofs.ClassesReadFacts.{list_start, list_next, list_defective, list_end, list_cut, err-fails}
use Rattle.hdrhistogram.proofs.serialization.class_decoder.append_payload.Goals as goal

pub loop-at-init : goal.loop-at-init
loop-at-init c = list_start c.args.scale c.args.bins (2 ^ 64 - 1) c.args.payload.now (map times_of c.args.classes.now.items)

pub returns-in_default-clause-err : goal.returns-in_default-clause-err
returns-in_default-clause-err c =
    let p = c.args.payload.now in
    let rest : IsCut (drop c.loop-at.at p) = subst IsCut (take_rest p c.loop-at.at) c.in_default.ensures.cut in
    subst (λ o. FailsBy o (counts_in c.args.bins (2 ^ 64 - 1) p)) (sym c.unexpected_eof.ensures.defect)
    (list_cut c.args.scale c.args.bins (2 ^ 64 - 1) p (map times_of c.args.classes.now.items) (map times_of c.loop-at.classes.items) c.loop-at.at c.loop-at.place c.loop-at.invariant c.loop-at-test.true rest)

pub returns-in_err-place-clause-err : goal.returns-in_err-place-clause-err
returns-in_err-place-clause-err c =
    let p = c.args.payload.now in
    let bins = c.args.bins in
    let at = c.loop-at.at in
    let z = c.zig_zag_decode.result in
    let fits : SFits w64 z = search rules in
    let q = err_from_is_err_and c.from_residual.result c.from_residual.ensures.1 in
    err-fails c.from_residual.result q.0 c.in_err-place.field-0.0 (counts_in bins (2 ^ 64 - 1) p) q.1 q.2
    (fails_so (defect_of_error c.in_err-place.field-0.0) _ (counts_in bins (2 ^ 64 - 1) p) c.in_err-place.ensures.defect (λ f e.
    list_defective c.args.scale bins (2 ^ 64 - 1) p _ (map times_of c.args.classes.now.items) (map times_of c.loop-at.classes.items) at c.loop-at.place c.in-Some.len c.in-Some.encoded _ f c.loop-at.invariant
    (omega (arith, c.in-Some.ensures.within, length-take (length p - at) (drop at p))) (ap (take c.in-Some.len) (take_rest p at)) c.in-Some.ensures.found
    (to_z-of_z w64 z fits ∙ c.zig_zag_decode.ensures) e))

pub loop-at-smaller : goal.loop-at-smaller
loop-at-smaller c = omega (arith, some_byte 8 _ c.in-Some.ensures.found.whole, c.in-Some.ensures.within, length-take {A = ℕ}, length-drop {A = ℕ})

pub loop-at-preserved : goal.loop-at-preserved
loop-at-preserved c =
    let p = c.args.payload.now in
    let at = c.loop-at.at in
    let slice = take (length p - at) (drop at p) in
    let z = c.zig_zag_decode.result in
    let fits : SFits w64 z = search rules in
    list_next c.args.scale c.args.bins (2 ^ 64 - 1) p (take c.in-Some.len slice) (map times_of c.args.classes.now.items) (map times_of c.loop-at.classes.items) (map times_of c.append_number.new.classes.items)
    at (at + c.in-Some.len) c.loop-at.place c.in_ok-place.place c.in-Some.len c.in-Some.encoded _ c.loop-at.invariant
    (omega (arith, c.in-Some.ensures.within, length-take (length p - at) (drop at p))) (ap (take c.in-Some.len) (take_rest p at)) c.in-Some.ensures.found
    (to_z-of_z w64 z fits ∙ c.zig_zag_decode.ensures) c.in_ok-place.ensures.defect c.in_ok-place.ensures.appended refl c.in_ok-place.ensures.next

pub returns-clause-read : goal.returns-clause-read
returns-clause-read c = list_end c.args.scale c.args.bins (2 ^ 64 - 1) c.args.payload.now (map times_of c.args.classes.now.items) (map times_of c.loop-at.classes.items) c.loop-at.at c.loop-at.place c.loop-at.invariant c.loop-at-test.false
