use Rattle.std.proofs.Common.{arith, length-take, length-drop, ap, ◌∙◌, ◌++◌, drop}
use Rattle.std.proofs.lemmas.List.{take_rest}
use Rattle.hdrhistogram.proofs.VarintSpellings.{shortest_short}
use Rattle.hdrhistogram.proofs.VarintWriting.{put_behind}
use Rattle.hdrhistogram.proofs.serialization.payload.write_number.Goals as goal

pub varint_write-requires : goal.varint_write-requires
varint_write-requires c few text h = simp (length-take, length-drop) (omega (arith, shortest_short c.args.number text (omega arith) h))

pub returns-clause-unchanged : goal.returns-clause-unchanged
returns-clause-unchanged c =
    let (text, h, e, same) = c.varint_write.ensures.written in
    put_behind c.args.buf.now c.varint_write.new.buf text c.args.at c.varint_write.result (omega arith) e
    (same ∙ ap (λ l. text ++ drop c.varint_write.result l) (take_rest c.args.buf.now c.args.at))
