use Rattle.std.proofs.Common.{◌≡◌, ◌∙◌, drop, arith}
use Rattle.hdrhistogram.proofs.V2Text.{header_written}
use Rattle.hdrhistogram.proofs.serialization.header.write_header.Goals as goal

pub returns : goal.returns
returns g c =
    let behind : drop 40 c.put_u64-3.new.buf ≡ drop 40 c.args.buf.now
    = c.put_u64-3.ensures.unchanged 40 (omega arith) ∙ c.put_u64-2.ensures.unchanged 40 (omega arith) ∙ c.put_u64.ensures.unchanged 40 (omega arith) ∙ c.put_u32-4.ensures.unchanged 40 (omega arith)
    ∙ c.put_u32-3.ensures.unchanged 40 (omega arith) ∙ c.put_u32-2.ensures.unchanged 40 (omega arith) ∙ c.put_u32.ensures.unchanged 40 (omega arith) in
    header_written c.args.h.now c.args.payload_len c.from.result c.low.result c.high.result c.args.buf.now
    c.put_u32.new.buf c.put_u32-2.new.buf c.put_u32-3.new.buf c.put_u32-4.new.buf c.put_u64.new.buf c.put_u64-2.new.buf c.put_u64-3.new.buf
    (c.from.ensures ∙ c.sigfig.ensures.value) c.low.ensures c.high.ensures.value
    c.put_u32.ensures.front c.put_u32-2.ensures.front c.put_u32-3.ensures.front c.put_u32-4.ensures.front
    c.put_u64.ensures.front c.put_u64-2.ensures.front c.put_u64-3.ensures.front behind
