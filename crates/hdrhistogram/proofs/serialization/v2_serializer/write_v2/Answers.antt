use Rattle.std.proofs.Common.{arith, ap, ◌∙◌, ◌++◌, drop}
use Rattle.std.proofs.lemmas.List.{take_rest}
use Rattle.hdrhistogram.proofs.V2Text.{v2_whole}
use Rattle.hdrhistogram.proofs.serialization.v2_serializer.write_v2.Goals as goal

pub returns-clause-written : goal.returns-clause-written
returns-clause-written g c =
    let n = c.in_ok-payload_len.payload_len in
    let (payload, p, size, same) = c.in_ok-payload_len.ensures.written in
    v2_whole c.args.h.now c.args.buf.now c.encode_within.new.buf c.write_header.new.buf payload n (omega arith) p size
    (same ∙ ap (λ l. payload ++ drop n l) (take_rest c.args.buf.now 40)) c.write_header.ensures
