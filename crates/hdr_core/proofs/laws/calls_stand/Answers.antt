use Rattle.hdr_core.proofs.CallsFacts.{call-plain, call-classes, call-bounds, call-stands, call-wherever}
use Rattle.hdr_core.specs.Calls.{after_call}
use Rattle.hdr_model.proofs.PlainBounds.{same-bounds}
use Rattle.hdr_core.proofs.laws.calls_stand.Goals as goal

pub returns-clause-plain : goal.returns-clause-plain
returns-clause-plain g c = λ most h call. call-plain g.T.Counter.greatest most g.T.Counter.number h call g.met.T.Counter.one_fits

pub returns-clause-classes : goal.returns-clause-classes
returns-clause-classes g c = λ most h call. call-classes g.T.Counter.greatest most g.T.Counter.number h call

pub returns-clause-samples : goal.returns-clause-samples
returns-clause-samples g c = λ most h call s t. call-stands g.T.Counter.greatest most g.T.Counter.number h call s t g.met.T.Counter.one_fits

pub returns-clause-wherever : goal.returns-clause-wherever
returns-clause-wherever g c = λ most h call s t. call-wherever g.T.Counter.greatest most g.T.Counter.number h call s t g.met.T.Counter.one_fits

pub returns-clause-same_bounds : goal.returns-clause-same_bounds
returns-clause-same_bounds g c = λ h call. same-bounds (after_call g.T.Counter.greatest g.T.Counter.number call h) h (call-bounds g.T.Counter.greatest g.T.Counter.number h call)
