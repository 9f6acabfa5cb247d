use Rattle.std.proofs.Common.{arith}
use Rattle.std.proofs.lemmas.Result.{err_from_is_err_and}
use Rattle.hdrhistogram.specs.V2Read.{four_at}
use Rattle.hdrhistogram.specs.declared.serialization.errors.DeserializeError.TheVariants.{IoError}
use Rattle.hdrhistogram.proofs.PayloadReadFilling.{gives_fails}
use Rattle.hdrhistogram.proofs.V2ReadHeader.{four-short, four-cut, four-whole}
use Rattle.hdrhistogram.proofs.serialization.fields.read_four.Goals as goal

pub returns-in_err-read_exact-clause-read : goal.returns-in_err-read_exact-clause-read
returns-in_err-read_exact-clause-read g c =
    let (t, few, q) = c.in_err-read_exact.ensures.err in
    let r = err_from_is_err_and c.from_residual.result c.from_residual.ensures.1 in
    (t, q, gives_fails _ c.from_residual.result r.0 (IoError c.in_err-read_exact.field-0.0) (four_at t) r.1 r.2 (four-short t (omega (arith, few))), four-cut t (omega (arith, few)))

pub returns-clause-read : goal.returns-clause-read
returns-clause-read g c = (c.read_exact.new.buffer, c.in_ok-read_exact.ensures.ok, four-whole c.read_exact.new.buffer c.read_u32.result (omega (arith, c.read_exact.auto.buffer)) c.read_u32.ensures, four-cut c.read_exact.new.buffer (omega (arith, c.read_exact.auto.buffer)))
