use Rattle.std.proofs.Common.{◌≡◌, ◌∙◌, ap, sym, subst, Ok}
use Rattle.std.proofs.lemmas.Result.{err_from_is_err_and}
use Rattle.hdrhistogram.specs.HeaderView.{header_of}
use Rattle.hdrhistogram.specs.Defects.{defect_of_error, FailsBy}
use Rattle.hdrhistogram.specs.PayloadRead.{counts_in}
use Rattle.hdrhistogram.specs.V2Read.{Contents, bins_for, contents_of, histogram_contents, v2_at}
use Rattle.hdrhistogram.proofs.DefectsMemory.{after_bounds_out}
use Rattle.hdrhistogram.proofs.PayloadReadFilling.{gives_fails}
use Rattle.hdrhistogram.proofs.V2ReadHistogram.{header-failed, bounds-failed, payload-failed, counts-failed, whole-taken, whole}
use Rattle.hdrhistogram.proofs.serialization.deserializer.read_v2.Goals as goal

pub returns-in_err-header-clause-read : goal.returns-in_err-header-clause-read
returns-in_err-header-clause-read g c =
    let rem = g.R.Read.remaining in
    let greatest = g.T.Counter.greatest in
    let q = err_from_is_err_and c.from_residual.result c.from_residual.ensures.1 in
    let (t, taken, fails, least) = header-failed (rem c.args.reader.now) (rem c.read_header.new.reader) greatest (defect_of_error c.in_err-header.field-0.0) c.in_err-header.ensures.read in
    (t, taken, gives_fails _ c.from_residual.result q.0 c.in_err-header.field-0.0 (v2_at greatest t) q.1 q.2 fails, least)

pub returns-in_err-empty-clause-read : goal.returns-in_err-empty-clause-read
returns-in_err-empty-clause-read g c =
    let rem = g.R.Read.remaining in
    let greatest = g.T.Counter.greatest in
    let q = err_from_is_err_and c.from_residual-in_err-empty.result c.from_residual-in_err-empty.ensures.1 in
    let (t, taken, fails, least) = bounds-failed (rem c.args.reader.now) (rem c.read_header.new.reader) greatest (header_of c.in_ok-header.header) (defect_of_error c.in_err-empty.field-0.0) c.in_ok-header.ensures.read c.in_err-empty.ensures.bounds in
    (t, taken, gives_fails _ c.from_residual-in_err-empty.result q.0 c.in_err-empty.field-0.0 (v2_at greatest t) q.1 q.2 fails, least)

pub returns-in_err-read_payload-clause-read : goal.returns-in_err-read_payload-clause-read
returns-in_err-read_payload-clause-read g c =
    let rem = g.R.Read.remaining in
    let greatest = g.T.Counter.greatest in
    let q = err_from_is_err_and c.from_residual-in_err-read_payload.result c.from_residual-in_err-read_payload.ensures.1 in
    let (t, taken, fails, least) = payload-failed (rem c.args.reader.now) (rem c.read_header.new.reader) greatest (header_of c.in_ok-header.header) c.in_ok-header.ensures.read c.in_ok-empty.ensures.bounds (rem c.read_payload.new.reader) (defect_of_error c.in_err-read_payload.field-0.0) c.in_err-read_payload.ensures in
    (t, taken, gives_fails _ c.from_residual-in_err-read_payload.result q.0 c.in_err-read_payload.field-0.0 (v2_at greatest t) q.1 q.2 fails, least)

pub returns-in_err-h-clause-read : goal.returns-in_err-h-clause-read
returns-in_err-h-clause-read g c =
    let rem = g.R.Read.remaining in
    let greatest = g.T.Counter.greatest in
    let header = header_of c.in_ok-header.header in
    let payload = c.read_payload.new.buffer.items in
    let o = defect_of_error c.in_err-h.field-0.0 in
    let q = err_from_is_err_and c.from_residual-in_err-h.result c.from_residual-in_err-h.ensures.1 in
    let counts = subst (λ p. FailsBy o (counts_in (bins_for header) greatest p)) c.deref.ensures.value
    (subst (λ n. FailsBy o (counts_in n greatest c.deref.result.now)) c.in_ok-empty.ensures.bins c.in_err-h.ensures.counts) in
    let (t, taken, fails, least) = counts-failed (rem c.args.reader.now) (rem c.read_header.new.reader) greatest header c.in_ok-header.ensures.read c.in_ok-empty.ensures.bounds (rem c.read_payload.new.reader) payload o c.in_ok-read_payload.ensures counts in
    (t, taken, gives_fails _ c.from_residual-in_err-h.result q.0 c.in_err-h.field-0.0 (v2_at greatest t) q.1 q.2 fails, least)

pub returns-clause-read : goal.returns-clause-read
returns-clause-read g c =
    let rem = g.R.Read.remaining in
    let greatest = g.T.Counter.greatest in
    let header = header_of c.in_ok-header.header in
    let payload = c.read_payload.new.buffer.items in
    let counts = c.in_ok-h.h.counts in
    let is : counts_in (bins_for header) greatest payload ≡ Ok counts
    = subst (λ p. counts_in (bins_for header) greatest p ≡ Ok counts) c.deref.ensures.value
    (subst (λ n. counts_in n greatest c.deref.result.now ≡ Ok counts) c.in_ok-empty.ensures.bins c.in_ok-h.ensures.counts) in
    let (t, taken, e, least) = whole-taken (rem c.args.reader.now) (rem c.read_header.new.reader) greatest header c.in_ok-header.ensures.read c.in_ok-empty.ensures.bounds (rem c.read_payload.new.reader) payload counts c.in_ok-read_payload.ensures is in
    let contents : histogram_contents c.in_ok-h.h ≡ contents_of header counts = c.in_ok-h.ensures.contents ∙ ap (λ (t : Contents). record t { counts = counts }) c.in_ok-empty.ensures.contents in
    (t, taken, e ∙ ap (λ (x : Contents). whole x) (sym contents), least)

pub returns-in_err-read_payload-clause-memory : goal.returns-in_err-read_payload-clause-memory
returns-in_err-read_payload-clause-memory g c =
    let rem = g.R.Read.remaining in
    let (more, taken, fails, least) = c.in_err-read_payload.ensures in
    after_bounds_out (rem c.args.reader.now) (rem c.read_header.new.reader) (rem c.read_payload.new.reader) (header_of c.in_ok-header.header) c.from_residual-in_err-read_payload.result c.in_ok-header.ensures.read c.in_ok-empty.ensures.bounds more taken

pub returns-in_err-h-clause-memory : goal.returns-in_err-h-clause-memory
returns-in_err-h-clause-memory g c =
    let rem = g.R.Read.remaining in
    let (more, taken, read, least) = c.in_ok-read_payload.ensures in
    after_bounds_out (rem c.args.reader.now) (rem c.read_header.new.reader) (rem c.read_payload.new.reader) (header_of c.in_ok-header.header) c.from_residual-in_err-h.result c.in_ok-header.ensures.read c.in_ok-empty.ensures.bounds more taken
