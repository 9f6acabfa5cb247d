use Rattle.std.proofs.Common.{◌+◌, ◌++◌, arith, refl, ap, ◌∙◌, drop}
use Rattle.std.proofs.lemmas.List.{take_rest}
use Rattle.hdrhistogram.specs.V2.{eight}
use Rattle.hdrhistogram.proofs.VarintWriting.{put_behind, put_front, drop_past}
use Rattle.hdrhistogram.proofs.serialization.header.put_u64.Goals as goal

pub returns-clause-front : goal.returns-clause-front
unfolding eight
returns-clause-front c = put_front c.args.buf.now c.write_u64.new.buf (eight c.args.number) c.args.at 8 (omega arith) refl
    (c.write_u64.ensures ∙ ap (λ l. eight c.args.number ++ drop 8 l) (take_rest c.args.buf.now c.args.at))

pub returns-clause-unchanged : goal.returns-clause-unchanged
unfolding eight
returns-clause-unchanged c k h = drop_past _ _ (c.args.at + 8) k h (put_behind c.args.buf.now c.write_u64.new.buf (eight c.args.number) c.args.at 8 (omega arith) refl
    (c.write_u64.ensures ∙ ap (λ l. eight c.args.number ++ drop 8 l) (take_rest c.args.buf.now c.args.at)))
