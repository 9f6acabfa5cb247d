use Rattle.std.proofs.Common.{◌+◌, ◌++◌, arith, refl, ap, ◌∙◌, drop}
use Rattle.std.proofs.lemmas.List.{take_rest}
use Rattle.hdrhistogram.specs.V2.{four}
use Rattle.hdrhistogram.proofs.VarintWriting.{put_behind, put_front, drop_past}
use Rattle.hdrhistogram.proofs.serialization.header.put_u32.Goals as goal

pub returns-clause-front : goal.returns-clause-front
unfolding four
returns-clause-front c = put_front c.args.buf.now c.write_u32.new.buf (four c.args.number) c.args.at 4 (omega arith) refl
    (c.write_u32.ensures ∙ ap (λ l. four c.args.number ++ drop 4 l) (take_rest c.args.buf.now c.args.at))

pub returns-clause-unchanged : goal.returns-clause-unchanged
unfolding four
returns-clause-unchanged c k h = drop_past _ _ (c.args.at + 4) k h (put_behind c.args.buf.now c.write_u32.new.buf (four c.args.number) c.args.at 4 (omega arith) refl
    (c.write_u32.ensures ∙ ap (λ l. four c.args.number ++ drop 4 l) (take_rest c.args.buf.now c.args.at)))
