use Rattle.std.proofs.Common.{◌≡◌, ◌∙◌, ap, sym}
use Rattle.std.proofs.lemmas.Result.{err_from_is_err_and}
use Rattle.hdrhistogram.specs.Defects.{defect_of_error, FailsBy}
use Rattle.hdrhistogram.specs.V2Read.{four_at, eight_at, check_field, cookie_defect, offset_defect, sigfig_defect, ratio_defect, header_at}
use Rattle.hdrhistogram.proofs.PayloadReadFilling.{gives_fails}
use Rattle.hdrhistogram.proofs.V2ReadHeader.{checked-taken, checked-refused, checked-failed, field-failed, from_len, from_offset, from_sigfig, from_low, from_high, from_ratio, from_cookie, headed, ended_header, ratio-ends, after_cookie, after_len, after_offset, after_sigfig, after_low, after_high}
use Rattle.hdrhistogram.proofs.serialization.fields.read_header.Goals as goal

pub returns-in_err-cookie-clause-read : goal.returns-in_err-cookie-clause-read
returns-in_err-cookie-clause-read g c =
    let rem = g.R.Read.remaining in
    let q = err_from_is_err_and c.from_residual.result c.from_residual.ensures.1 in
    let (t, taken, fails, least) = from_cookie (rem c.args.reader.now) (rem c.read_four.new.reader) (λ r. FailsBy (defect_of_error c.in_err-cookie.field-0.0) r)
    (field-failed (rem c.args.reader.now) (rem c.read_four.new.reader) (λ t. check_field cookie_defect (four_at t)) (λ _ t. from_len t) (defect_of_error c.in_err-cookie.field-0.0) (checked-failed (rem c.args.reader.now) (rem c.read_four.new.reader) cookie_defect four_at (defect_of_error c.in_err-cookie.field-0.0) c.in_err-cookie.ensures.read)) in
    (t, taken, gives_fails _ c.from_residual.result q.0 c.in_err-cookie.field-0.0 (header_at t) q.1 q.2 fails, least)

pub returns-in_err-check_cookie-clause-read : goal.returns-in_err-check_cookie-clause-read
returns-in_err-check_cookie-clause-read g c =
    let rem = g.R.Read.remaining in
    let q = err_from_is_err_and c.from_residual-in_err-check_cookie.result c.from_residual-in_err-check_cookie.ensures.1 in
    let (t, taken, fails, least) = from_cookie (rem c.args.reader.now) (rem c.read_four.new.reader) (λ r. FailsBy (defect_of_error c.in_err-check_cookie.field-0.0) r)
    (field-failed (rem c.args.reader.now) (rem c.read_four.new.reader) (λ t. check_field cookie_defect (four_at t)) (λ _ t. from_len t) (defect_of_error c.in_err-check_cookie.field-0.0) (checked-refused (rem c.args.reader.now) (rem c.read_four.new.reader) cookie_defect four_at c.in_ok-cookie.cookie (defect_of_error c.in_err-check_cookie.field-0.0) c.in_ok-cookie.ensures.read c.in_err-check_cookie.ensures.defect)) in
    (t, taken, gives_fails _ c.from_residual-in_err-check_cookie.result q.0 c.in_err-check_cookie.field-0.0 (header_at t) q.1 q.2 fails, least)

pub returns-in_err-payload_len-clause-read : goal.returns-in_err-payload_len-clause-read
returns-in_err-payload_len-clause-read g c =
    let rem = g.R.Read.remaining in
    let q = err_from_is_err_and c.from_residual-in_err-payload_len.result c.from_residual-in_err-payload_len.ensures.1 in
    let (t, taken, fails, least) = after_cookie (rem c.args.reader.now) (rem c.read_four.new.reader) c.in_ok-cookie.cookie c.in_ok-cookie.ensures.read c.in_ok-check_cookie.ensures.defect (rem c.read_four-2.new.reader) (λ r. FailsBy (defect_of_error c.in_err-payload_len.field-0.0) r)
    (field-failed (rem c.read_four.new.reader) (rem c.read_four-2.new.reader) four_at from_offset (defect_of_error c.in_err-payload_len.field-0.0) c.in_err-payload_len.ensures.read) in
    (t, taken, gives_fails _ c.from_residual-in_err-payload_len.result q.0 c.in_err-payload_len.field-0.0 (header_at t) q.1 q.2 fails, least)

pub returns-in_err-offset-clause-read : goal.returns-in_err-offset-clause-read
returns-in_err-offset-clause-read g c =
    let rem = g.R.Read.remaining in
    let q = err_from_is_err_and c.from_residual-in_err-offset.result c.from_residual-in_err-offset.ensures.1 in
    let (t, taken, fails, least) = after_len (rem c.args.reader.now) (rem c.read_four.new.reader) c.in_ok-cookie.cookie c.in_ok-cookie.ensures.read c.in_ok-check_cookie.ensures.defect (rem c.read_four-3.new.reader) (λ r. FailsBy (defect_of_error c.in_err-offset.field-0.0) r) (rem c.read_four-2.new.reader) c.in_ok-payload_len.payload_len c.in_ok-payload_len.ensures.read
    (field-failed (rem c.read_four-2.new.reader) (rem c.read_four-3.new.reader) (λ t. check_field offset_defect (four_at t)) (λ _ t. from_sigfig c.in_ok-payload_len.payload_len t) (defect_of_error c.in_err-offset.field-0.0) (checked-failed (rem c.read_four-2.new.reader) (rem c.read_four-3.new.reader) offset_defect four_at (defect_of_error c.in_err-offset.field-0.0) c.in_err-offset.ensures.read)) in
    (t, taken, gives_fails _ c.from_residual-in_err-offset.result q.0 c.in_err-offset.field-0.0 (header_at t) q.1 q.2 fails, least)

pub returns-in_err-check_offset-clause-read : goal.returns-in_err-check_offset-clause-read
returns-in_err-check_offset-clause-read g c =
    let rem = g.R.Read.remaining in
    let q = err_from_is_err_and c.from_residual-in_err-check_offset.result c.from_residual-in_err-check_offset.ensures.1 in
    let (t, taken, fails, least) = after_len (rem c.args.reader.now) (rem c.read_four.new.reader) c.in_ok-cookie.cookie c.in_ok-cookie.ensures.read c.in_ok-check_cookie.ensures.defect (rem c.read_four-3.new.reader) (λ r. FailsBy (defect_of_error c.in_err-check_offset.field-0.0) r) (rem c.read_four-2.new.reader) c.in_ok-payload_len.payload_len c.in_ok-payload_len.ensures.read
    (field-failed (rem c.read_four-2.new.reader) (rem c.read_four-3.new.reader) (λ t. check_field offset_defect (four_at t)) (λ _ t. from_sigfig c.in_ok-payload_len.payload_len t) (defect_of_error c.in_err-check_offset.field-0.0) (checked-refused (rem c.read_four-2.new.reader) (rem c.read_four-3.new.reader) offset_defect four_at c.in_ok-offset.offset (defect_of_error c.in_err-check_offset.field-0.0) c.in_ok-offset.ensures.read c.in_err-check_offset.ensures.defect)) in
    (t, taken, gives_fails _ c.from_residual-in_err-check_offset.result q.0 c.in_err-check_offset.field-0.0 (header_at t) q.1 q.2 fails, least)

pub returns-in_err-digits-clause-read : goal.returns-in_err-digits-clause-read
returns-in_err-digits-clause-read g c =
    let rem = g.R.Read.remaining in
    let q = err_from_is_err_and c.from_residual-in_err-digits.result c.from_residual-in_err-digits.ensures.1 in
    let (t, taken, fails, least) = after_offset (rem c.args.reader.now) (rem c.read_four.new.reader) c.in_ok-cookie.cookie c.in_ok-cookie.ensures.read c.in_ok-check_cookie.ensures.defect (rem c.read_four-4.new.reader) (λ r. FailsBy (defect_of_error c.in_err-digits.field-0.0) r) (rem c.read_four-2.new.reader) c.in_ok-payload_len.payload_len c.in_ok-payload_len.ensures.read (rem c.read_four-3.new.reader) c.in_ok-offset.offset c.in_ok-offset.ensures.read c.in_ok-check_offset.ensures.defect
    (field-failed (rem c.read_four-3.new.reader) (rem c.read_four-4.new.reader) (λ t. check_field sigfig_defect (four_at t)) (from_low c.in_ok-payload_len.payload_len) (defect_of_error c.in_err-digits.field-0.0) (checked-failed (rem c.read_four-3.new.reader) (rem c.read_four-4.new.reader) sigfig_defect four_at (defect_of_error c.in_err-digits.field-0.0) c.in_err-digits.ensures.read)) in
    (t, taken, gives_fails _ c.from_residual-in_err-digits.result q.0 c.in_err-digits.field-0.0 (header_at t) q.1 q.2 fails, least)

pub returns-in_err-sigfig-clause-read : goal.returns-in_err-sigfig-clause-read
returns-in_err-sigfig-clause-read g c =
    let rem = g.R.Read.remaining in
    let q = err_from_is_err_and c.from_residual-in_err-sigfig.result c.from_residual-in_err-sigfig.ensures.1 in
    let (t, taken, fails, least) = after_offset (rem c.args.reader.now) (rem c.read_four.new.reader) c.in_ok-cookie.cookie c.in_ok-cookie.ensures.read c.in_ok-check_cookie.ensures.defect (rem c.read_four-4.new.reader) (λ r. FailsBy (defect_of_error c.in_err-sigfig.field-0.0) r) (rem c.read_four-2.new.reader) c.in_ok-payload_len.payload_len c.in_ok-payload_len.ensures.read (rem c.read_four-3.new.reader) c.in_ok-offset.offset c.in_ok-offset.ensures.read c.in_ok-check_offset.ensures.defect
    (field-failed (rem c.read_four-3.new.reader) (rem c.read_four-4.new.reader) (λ t. check_field sigfig_defect (four_at t)) (from_low c.in_ok-payload_len.payload_len) (defect_of_error c.in_err-sigfig.field-0.0) (checked-refused (rem c.read_four-3.new.reader) (rem c.read_four-4.new.reader) sigfig_defect four_at c.in_ok-digits.digits (defect_of_error c.in_err-sigfig.field-0.0) c.in_ok-digits.ensures.read c.in_err-sigfig.ensures.defect)) in
    (t, taken, gives_fails _ c.from_residual-in_err-sigfig.result q.0 c.in_err-sigfig.field-0.0 (header_at t) q.1 q.2 fails, least)

pub returns-in_err-low-clause-read : goal.returns-in_err-low-clause-read
returns-in_err-low-clause-read g c =
    let rem = g.R.Read.remaining in
    let q = err_from_is_err_and c.from_residual-in_err-low.result c.from_residual-in_err-low.ensures.1 in
    let (t, taken, fails, least) = after_sigfig (rem c.args.reader.now) (rem c.read_four.new.reader) c.in_ok-cookie.cookie c.in_ok-cookie.ensures.read c.in_ok-check_cookie.ensures.defect (rem c.read_eight.new.reader) (λ r. FailsBy (defect_of_error c.in_err-low.field-0.0) r) (rem c.read_four-2.new.reader) c.in_ok-payload_len.payload_len c.in_ok-payload_len.ensures.read (rem c.read_four-3.new.reader) c.in_ok-offset.offset c.in_ok-offset.ensures.read c.in_ok-check_offset.ensures.defect (rem c.read_four-4.new.reader) c.in_ok-digits.digits c.in_ok-digits.ensures.read c.in_ok-sigfig.ensures.defect
    (field-failed (rem c.read_four-4.new.reader) (rem c.read_eight.new.reader) eight_at (from_high c.in_ok-payload_len.payload_len c.in_ok-digits.digits) (defect_of_error c.in_err-low.field-0.0) c.in_err-low.ensures.read) in
    (t, taken, gives_fails _ c.from_residual-in_err-low.result q.0 c.in_err-low.field-0.0 (header_at t) q.1 q.2 fails, least)

pub returns-in_err-high-clause-read : goal.returns-in_err-high-clause-read
returns-in_err-high-clause-read g c =
    let rem = g.R.Read.remaining in
    let q = err_from_is_err_and c.from_residual-in_err-high.result c.from_residual-in_err-high.ensures.1 in
    let (t, taken, fails, least) = after_low (rem c.args.reader.now) (rem c.read_four.new.reader) c.in_ok-cookie.cookie c.in_ok-cookie.ensures.read c.in_ok-check_cookie.ensures.defect (rem c.read_eight-2.new.reader) (λ r. FailsBy (defect_of_error c.in_err-high.field-0.0) r) (rem c.read_four-2.new.reader) c.in_ok-payload_len.payload_len c.in_ok-payload_len.ensures.read (rem c.read_four-3.new.reader) c.in_ok-offset.offset c.in_ok-offset.ensures.read c.in_ok-check_offset.ensures.defect (rem c.read_four-4.new.reader) c.in_ok-digits.digits c.in_ok-digits.ensures.read c.in_ok-sigfig.ensures.defect (rem c.read_eight.new.reader) c.in_ok-low.low c.in_ok-low.ensures.read
    (field-failed (rem c.read_eight.new.reader) (rem c.read_eight-2.new.reader) eight_at (from_ratio c.in_ok-payload_len.payload_len c.in_ok-digits.digits c.in_ok-low.low) (defect_of_error c.in_err-high.field-0.0) c.in_err-high.ensures.read) in
    (t, taken, gives_fails _ c.from_residual-in_err-high.result q.0 c.in_err-high.field-0.0 (header_at t) q.1 q.2 fails, least)

pub returns-in_err-ratio-clause-read : goal.returns-in_err-ratio-clause-read
returns-in_err-ratio-clause-read g c =
    let rem = g.R.Read.remaining in
    let q = err_from_is_err_and c.from_residual-in_err-ratio.result c.from_residual-in_err-ratio.ensures.1 in
    let (t, taken, fails, least) = after_high (rem c.args.reader.now) (rem c.read_four.new.reader) c.in_ok-cookie.cookie c.in_ok-cookie.ensures.read c.in_ok-check_cookie.ensures.defect (rem c.read_eight-3.new.reader) (λ r. FailsBy (defect_of_error c.in_err-ratio.field-0.0) r) (rem c.read_four-2.new.reader) c.in_ok-payload_len.payload_len c.in_ok-payload_len.ensures.read (rem c.read_four-3.new.reader) c.in_ok-offset.offset c.in_ok-offset.ensures.read c.in_ok-check_offset.ensures.defect (rem c.read_four-4.new.reader) c.in_ok-digits.digits c.in_ok-digits.ensures.read c.in_ok-sigfig.ensures.defect (rem c.read_eight.new.reader) c.in_ok-low.low c.in_ok-low.ensures.read (rem c.read_eight-2.new.reader) c.in_ok-high.high c.in_ok-high.ensures.read
    (field-failed (rem c.read_eight-2.new.reader) (rem c.read_eight-3.new.reader) (λ t. check_field ratio_defect (eight_at t)) (ended_header c.in_ok-payload_len.payload_len c.in_ok-digits.digits c.in_ok-low.low c.in_ok-high.high) (defect_of_error c.in_err-ratio.field-0.0) (checked-failed (rem c.read_eight-2.new.reader) (rem c.read_eight-3.new.reader) ratio_defect eight_at (defect_of_error c.in_err-ratio.field-0.0) c.in_err-ratio.ensures.read)) in
    (t, taken, gives_fails _ c.from_residual-in_err-ratio.result q.0 c.in_err-ratio.field-0.0 (header_at t) q.1 q.2 fails, least)

pub returns-in_err-check_ratio-clause-read : goal.returns-in_err-check_ratio-clause-read
returns-in_err-check_ratio-clause-read g c =
    let rem = g.R.Read.remaining in
    let q = err_from_is_err_and c.from_residual-in_err-check_ratio.result c.from_residual-in_err-check_ratio.ensures.1 in
    let (t, taken, fails, least) = after_high (rem c.args.reader.now) (rem c.read_four.new.reader) c.in_ok-cookie.cookie c.in_ok-cookie.ensures.read c.in_ok-check_cookie.ensures.defect (rem c.read_eight-3.new.reader) (λ r. FailsBy (defect_of_error c.in_err-check_ratio.field-0.0) r) (rem c.read_four-2.new.reader) c.in_ok-payload_len.payload_len c.in_ok-payload_len.ensures.read (rem c.read_four-3.new.reader) c.in_ok-offset.offset c.in_ok-offset.ensures.read c.in_ok-check_offset.ensures.defect (rem c.read_four-4.new.reader) c.in_ok-digits.digits c.in_ok-digits.ensures.read c.in_ok-sigfig.ensures.defect (rem c.read_eight.new.reader) c.in_ok-low.low c.in_ok-low.ensures.read (rem c.read_eight-2.new.reader) c.in_ok-high.high c.in_ok-high.ensures.read
    (field-failed (rem c.read_eight-2.new.reader) (rem c.read_eight-3.new.reader) (λ t. check_field ratio_defect (eight_at t)) (ended_header c.in_ok-payload_len.payload_len c.in_ok-digits.digits c.in_ok-low.low c.in_ok-high.high) (defect_of_error c.in_err-check_ratio.field-0.0) (checked-refused (rem c.read_eight-2.new.reader) (rem c.read_eight-3.new.reader) ratio_defect eight_at c.in_ok-ratio.ratio (defect_of_error c.in_err-check_ratio.field-0.0) c.in_ok-ratio.ensures.read c.in_err-check_ratio.ensures.defect)) in
    (t, taken, gives_fails _ c.from_residual-in_err-check_ratio.result q.0 c.in_err-check_ratio.field-0.0 (header_at t) q.1 q.2 fails, least)

pub returns-clause-read : goal.returns-clause-read
returns-clause-read g c =
    let rem = g.R.Read.remaining in
    let (t, taken, e, least) = after_high (rem c.args.reader.now) (rem c.read_four.new.reader) c.in_ok-cookie.cookie c.in_ok-cookie.ensures.read c.in_ok-check_cookie.ensures.defect (rem c.read_eight-3.new.reader) (λ r. r ≡ headed c.in_ok-payload_len.payload_len c.in_ok-digits.digits c.in_ok-low.low c.in_ok-high.high) (rem c.read_four-2.new.reader) c.in_ok-payload_len.payload_len c.in_ok-payload_len.ensures.read (rem c.read_four-3.new.reader) c.in_ok-offset.offset c.in_ok-offset.ensures.read c.in_ok-check_offset.ensures.defect (rem c.read_four-4.new.reader) c.in_ok-digits.digits c.in_ok-digits.ensures.read c.in_ok-sigfig.ensures.defect (rem c.read_eight.new.reader) c.in_ok-low.low c.in_ok-low.ensures.read (rem c.read_eight-2.new.reader) c.in_ok-high.high c.in_ok-high.ensures.read
    (ratio-ends (rem c.read_eight-2.new.reader) (rem c.read_eight-3.new.reader) c.in_ok-payload_len.payload_len c.in_ok-digits.digits c.in_ok-low.low c.in_ok-high.high c.in_ok-ratio.ratio (checked-taken (rem c.read_eight-2.new.reader) (rem c.read_eight-3.new.reader) ratio_defect eight_at c.in_ok-ratio.ratio c.in_ok-ratio.ensures.read c.in_ok-check_ratio.ensures.defect)) in
    (t, taken, e ∙ ap (λ n. headed c.in_ok-payload_len.payload_len n c.in_ok-low.low c.in_ok-high.high) (sym c.in_ok-sigfig.ensures.value), least)
