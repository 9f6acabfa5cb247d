use Rattle.hdrhistogram.specs.HeaderView.{header_of}
use Rattle.hdrhistogram.specs.Defects.{defect_of_error}
use Rattle.hdrhistogram.proofs.V2ReadHistogram.{bounds-yes, bounds-refused, bounds-memory, defect-none, is-made, is-spare}
use Rattle.hdrhistogram.proofs.serialization.deserializer.empty_for.Goals as goal

pub returns-in-Ok-clause-bounds : goal.returns-in-Ok-clause-bounds
returns-in-Ok-clause-bounds g c = defect-none (header_of c.args.header) (bounds-yes c.args.header.low c.args.header.high c.args.header.sigfig c.in-Ok.ensures.1)

pub returns-in-Ok-clause-empty : goal.returns-in-Ok-clause-empty
returns-in-Ok-clause-empty g c = (is-made c.in-Ok.builder c.args.header.low c.args.header.high c.args.header.sigfig c.in-Ok.ensures.0).empty

pub returns-in-Ok-clause-fixed : goal.returns-in-Ok-clause-fixed
returns-in-Ok-clause-fixed g c = (is-made c.in-Ok.builder c.args.header.low c.args.header.high c.args.header.sigfig c.in-Ok.ensures.0).fixed

pub returns-in-Ok-clause-contents : goal.returns-in-Ok-clause-contents
returns-in-Ok-clause-contents g c = (is-made c.in-Ok.builder c.args.header.low c.args.header.high c.args.header.sigfig c.in-Ok.ensures.0).contents

pub returns-in-Ok-clause-bins : goal.returns-in-Ok-clause-bins
returns-in-Ok-clause-bins g c = (is-made c.in-Ok.builder c.args.header.low c.args.header.high c.args.header.sigfig c.in-Ok.ensures.0).bins

pub returns-in-Err-clause-bounds : goal.returns-in-Err-clause-bounds
returns-in-Err-clause-bounds g c = bounds-refused (header_of c.args.header) c.in-Err.error (defect_of_error c.creation_error.result) c.in-Err.ensures c.creation_error.ensures

pub returns-in-Err-clause-memory : goal.returns-in-Err-clause-memory
returns-in-Err-clause-memory g c = bounds-memory (header_of c.args.header) c.in-Err.error c.creation_error.result c.in-Err.ensures c.creation_error.ensures

pub returns-then-has_bounds-clause-bounds : goal.returns-then-has_bounds-clause-bounds
returns-then-has_bounds-clause-bounds g c = defect-none (header_of c.args.header) (bounds-yes c.args.header.low c.args.header.high c.args.header.sigfig (rw (← c.has_bounds.ensures.low c.if-has_bounds.true, ← c.has_bounds.ensures.high c.if-has_bounds.true, ← c.has_bounds.ensures.sigfig c.if-has_bounds.true) c.emptied.ensures.1))

pub returns-then-has_bounds-clause-empty : goal.returns-then-has_bounds-clause-empty
returns-then-has_bounds-clause-empty g c =
    (is-spare c.emptied.result _ _ _ c.args.header.low c.args.header.high c.args.header.sigfig c.emptied.ensures.0 (c.has_bounds.ensures.low c.if-has_bounds.true) (c.has_bounds.ensures.high c.if-has_bounds.true) (c.has_bounds.ensures.sigfig c.if-has_bounds.true)).empty

pub returns-then-has_bounds-clause-fixed : goal.returns-then-has_bounds-clause-fixed
returns-then-has_bounds-clause-fixed g c =
    (is-spare c.emptied.result _ _ _ c.args.header.low c.args.header.high c.args.header.sigfig c.emptied.ensures.0 (c.has_bounds.ensures.low c.if-has_bounds.true) (c.has_bounds.ensures.high c.if-has_bounds.true) (c.has_bounds.ensures.sigfig c.if-has_bounds.true)).fixed

pub returns-then-has_bounds-clause-contents : goal.returns-then-has_bounds-clause-contents
returns-then-has_bounds-clause-contents g c =
    (is-spare c.emptied.result _ _ _ c.args.header.low c.args.header.high c.args.header.sigfig c.emptied.ensures.0 (c.has_bounds.ensures.low c.if-has_bounds.true) (c.has_bounds.ensures.high c.if-has_bounds.true) (c.has_bounds.ensures.sigfig c.if-has_bounds.true)).contents

pub returns-then-has_bounds-clause-bins : goal.returns-then-has_bounds-clause-bins
returns-then-has_bounds-clause-bins g c =
    (is-spare c.emptied.result _ _ _ c.args.header.low c.args.header.high c.args.header.sigfig c.emptied.ensures.0 (c.has_bounds.ensures.low c.if-has_bounds.true) (c.has_bounds.ensures.high c.if-has_bounds.true) (c.has_bounds.ensures.sigfig c.if-has_bounds.true)).bins
