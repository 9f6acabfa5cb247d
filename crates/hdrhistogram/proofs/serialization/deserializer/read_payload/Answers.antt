use Rattle.std.proofs.Common.{◌++◌, arith, ap, length, length-append, sym, subst}
use Rattle.std.specs.Io.KnownBytes.{Consumes}
use Rattle.std.proofs.KnownBytes.{Consumes-nil, Consumes-trans}
use Rattle.std.proofs.lemmas.Result.{err_from_is_err_and}
use Rattle.hdrhistogram.specs.V2Read.{bytes_at}
use Rattle.hdrhistogram.proofs.PayloadReadFilling.{gives_fails}
use Rattle.hdrhistogram.proofs.V2ReadHistogram.{stream_fails, bytes-short, bytes-cut, bytes-whole, piece-taken}
use Rattle.hdrhistogram.proofs.serialization.deserializer.read_payload.Goals as goal

pub loop-buffer-init : goal.loop-buffer-init
loop-buffer-init g c =
    let rem = g.R.Read.remaining in
    record {
      taken = subst (Consumes (rem c.args.reader.now) (rem c.args.reader.now)) (sym c.requires) (Consumes-nil (rem c.args.reader.now));
      few = omega (arith, ap length c.requires);
    }

pub returns-in_err-read_piece : goal.returns-in_err-read_piece
returns-in_err-read_piece g c =
    let rem = g.R.Read.remaining in
    let (bytes, few, q) = c.in_err-read_piece.ensures.err.1 in
    let r = err_from_is_err_and c.from_residual.result c.from_residual.ensures.1 in
    let t = c.loop-buffer.buffer.items ++ bytes in (
      t,
      Consumes-trans (rem c.args.reader.now) (rem c.loop-buffer.reader) (rem c.read_piece.new.reader) c.loop-buffer.buffer.items bytes c.loop-buffer.invariant.taken q,
      gives_fails _ c.from_residual.result r.0 c.in_err-read_piece.field-0.0 (bytes_at c.args.len t) r.1 r.2
          (stream_fails c.in_err-read_piece.field-0.0 (bytes_at c.args.len t) c.in_err-read_piece.ensures.err.0 (bytes-short c.args.len t (omega (arith, few, length-append c.loop-buffer.buffer.items bytes, c.loop-buffer.buffer.ok.0)))),
      bytes-cut c.args.len t (omega (arith, few, length-append c.loop-buffer.buffer.items bytes, c.loop-buffer.buffer.ok.0)),
    )

pub loop-buffer-smaller : goal.loop-buffer-smaller
loop-buffer-smaller g c =
    let (bytes, size, grows, q) = c.in_ok-read_piece.ensures.ok in
    omega (arith, size, ap length grows, length-append c.loop-buffer.buffer.items bytes, c.loop-buffer.buffer.ok.0)

pub loop-buffer-preserved : goal.loop-buffer-preserved
loop-buffer-preserved g c =
    let rem = g.R.Read.remaining in
    let (bytes, size, grows, q) = c.in_ok-read_piece.ensures.ok in
    record {
      taken = piece-taken (rem c.args.reader.now) (rem c.loop-buffer.reader) (rem c.read_piece.new.reader) c.loop-buffer.buffer.items c.read_piece.new.buffer.items bytes c.loop-buffer.invariant.taken grows q;
      few = omega (arith, size, ap length grows, length-append c.loop-buffer.buffer.items bytes, c.loop-buffer.buffer.ok.0);
    }

pub returns : goal.returns
returns g c =
    (c.loop-buffer.buffer.items, c.loop-buffer.invariant.taken, bytes-whole c.args.len c.loop-buffer.buffer.items (omega (arith, c.loop-buffer.buffer.ok.0, c.loop-buffer.invariant.few)), bytes-cut c.args.len c.loop-buffer.buffer.items c.loop-buffer.invariant.few)
