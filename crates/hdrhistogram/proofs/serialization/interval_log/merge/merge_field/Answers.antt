use Rattle.hdrhistogram.specs.MergeView.{view_of_merging}
use Rattle.hdrhistogram.proofs.FieldMerging.{held_merges, refused_merges}
use Rattle.hdrhistogram.proofs.serialization.interval_log.merge.merge_field.Goals as goal

pub returns-in-Err-clause-err : goal.returns-in-Err-clause-err
returns-in-Err-clause-err g c =
    rw c.not_decoded.ensures (refused_merges g.T.Counter.greatest (view_of_merging c.args.merging.now) c.args.field.now c.in-Err.cause c.in-Err.ensures.read)

pub returns-clause-ok : goal.returns-clause-ok
returns-clause-ok g c =
    rw (c.in-Ok-add_from.ensures.ok, c.one_if_coarser-coarser.ensures.value) (held_merges g.T.Counter.greatest (view_of_merging c.args.merging.now) c.args.field.now c.in-Ok.source c.in-Ok.ensures.read)
