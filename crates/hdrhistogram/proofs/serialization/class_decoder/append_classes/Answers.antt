use Rattle.std.proofs.Common.{◌≡◌, ◌-◌, ◌^◌, ◌∙◌, ◌++◌, map, ap, arith, refl, subst, Ok}
use Rattle.std.proofs.lemmas.Result.{err_from_is_err_and}
use Rattle.hdr_model.specs.Merging.{classes_from}
use Rattle.hdrhistogram.specs.ClassesRead.{times_of}
use Rattle.hdrhistogram.specs.Defects.{defect_of_error, FailsBy}
use Rattle.hdrhistogram.specs.HeaderView.{header_of}
use Rattle.hdrhistogram.specs.PayloadRead.{counts_in}
use Rattle.hdrhistogram.specs.V2Read.{v2_at, bins_for}
use Rattle.hdrhistogram.proofs.ClassesReadFacts.{appends, err-fails, fails-header, fails-bounds, fails-payload, fails-counts, v2-steps}
use Rattle.hdrhistogram.proofs.serialization.class_decoder.append_classes.Goals as goal

pub returns-in_err-header-clause-err : goal.returns-in_err-header-clause-err
returns-in_err-header-clause-err c =
    let t = c.args.text.now in
    let e = c.in_err-header.field-0.0 in
    let q = err_from_is_err_and c.from_residual.result c.from_residual.ensures.1 in
    err-fails c.from_residual.result q.0 e (v2_at (2 ^ 64 - 1) t) q.1 q.2 (fails-header (2 ^ 64 - 1) t (defect_of_error e) c.in_err-header.ensures.read)

pub returns-in_err-scale-clause-err : goal.returns-in_err-scale-clause-err
returns-in_err-scale-clause-err c =
    let t = c.args.text.now in
    let r = c.from_residual-in_err-scale in
    let e = c.in_err-scale.field-0.0 in
    let q = err_from_is_err_and r.result r.ensures.1 in
    err-fails r.result q.0 e (v2_at (2 ^ 64 - 1) t) q.1 q.2 (fails-bounds (2 ^ 64 - 1) t c.in_ok-header.rest.now (header_of c.in_ok-header.header) (defect_of_error e) c.in_ok-header.ensures.read c.in_err-scale.ensures.bounds)

pub returns-in_err-payload-clause-err : goal.returns-in_err-payload-clause-err
returns-in_err-payload-clause-err c =
    let t = c.args.text.now in
    let r = c.from_residual-in_err-payload in
    let e = c.in_err-payload.field-0.0 in
    let q = err_from_is_err_and r.result r.ensures.1 in
    err-fails r.result q.0 e (v2_at (2 ^ 64 - 1) t) q.1 q.2 (fails-payload (2 ^ 64 - 1) t c.in_ok-header.rest.now (header_of c.in_ok-header.header) (defect_of_error e) c.in_ok-header.ensures.read c.in_ok-scale.ensures.bounds c.in_err-payload.ensures)

pub returns-in_err-append_payload-clause-err : goal.returns-in_err-append_payload-clause-err
returns-in_err-append_payload-clause-err c =
    let t = c.args.text.now in
    let r = c.from_residual-in_err-append_payload in
    let e = c.in_err-append_payload.field-0.0 in
    let q = err_from_is_err_and r.result r.ensures.1 in
    err-fails r.result q.0 e (v2_at (2 ^ 64 - 1) t) q.1 q.2 (fails-counts (2 ^ 64 - 1) t c.in_ok-header.rest.now c.in_ok-payload.field-0-1.now c.in_ok-payload.payload.now (header_of c.in_ok-header.header) (defect_of_error e)
    c.in_ok-header.ensures.read c.in_ok-scale.ensures.bounds c.in_ok-payload.ensures (subst (λ n. FailsBy (defect_of_error e) (counts_in n (2 ^ 64 - 1) c.in_ok-payload.payload.now)) c.in_ok-scale.ensures.bins c.in_err-append_payload.ensures.err))

pub returns-clause-read : goal.returns-clause-read
returns-clause-read c =
    let t = c.args.text.now in
    let h = c.in_ok-header.header in
    let (counts, read, listed) = c.in_ok-append_payload.ensures.read in
    let there : counts_in (bins_for (header_of h)) (2 ^ 64 - 1) c.in_ok-payload.payload.now ≡ Ok counts = subst (λ n. counts_in n (2 ^ 64 - 1) c.in_ok-payload.payload.now ≡ Ok counts) c.in_ok-scale.ensures.bins read in
    let whole = v2-steps (2 ^ 64 - 1) t c.in_ok-header.rest.now c.in_ok-payload.field-0-1.now c.in_ok-payload.payload.now counts (header_of h) c.in_ok-header.ensures.read c.in_ok-scale.ensures.bounds c.in_ok-payload.ensures there in
    appends (2 ^ 64 - 1) t c.in_ok-payload.field-0-1.now counts (header_of h) (record { low = h.low; sigfig = h.sigfig }) c.args.classes.now.items c.append_payload.new.classes.items (λ i. omega (arith, c.type_inv.text i)) whole refl refl
    (listed ∙ ap (λ g. map times_of c.args.classes.now.items ++ classes_from g 0 counts) c.in_ok-scale.ensures.scale)
