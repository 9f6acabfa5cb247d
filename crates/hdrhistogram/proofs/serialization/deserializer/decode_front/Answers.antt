use Rattle.std.proofs.Common.{refl}
use Rattle.hdrhistogram.specs.V2Read.{histogram_contents}
use Rattle.hdrhistogram.proofs.V2ReadHistogram.{is-read, no_longer}
use Rattle.hdrhistogram.proofs.serialization.deserializer.decode_front.Goals as goal

pub overflow_sub-result : goal.overflow_sub-result
overflow_sub-result g c = no_longer g.T.Counter.greatest c.args.text.now c.in_ok-h.rest.now (histogram_contents c.in_ok-h.h) c.in_ok-h.ensures.read

pub returns-clause-read : goal.returns-clause-read
returns-clause-read g c = is-read g.T.Counter.greatest c.args.text.now c.in_ok-h.rest.now c.in_ok-h.h _ c.in_ok-h.ensures.read c.in_ok-h.ensures.fixed c.in_ok-h.ensures.restated refl
