use Rattle.std.proofs.Common.{◌∙◌}
use Rattle.hdr_model.proofs.RecordingClears.{restarted-parts, IsPlain-unmarked}
use Rattle.hdr_core.proofs.histogram.Histogram.reset.Goals as goal

pub invariant_of-self : goal.invariant_of-self
invariant_of-self g c = record {
  scale = c.self.invariant.scale;
  block = c.self.invariant.block;
  plain = rw c.none-self-inside.ensures (IsPlain-unmarked g.T.Counter.greatest c.args.self.now _ (c.self.view_is ∙ c.clear.ensures) c.self.invariant.plain);
}

pub returns : goal.returns
returns g c = rw c.none-self-inside.ensures (restarted-parts c.args.self.now _ (c.self.view_is ∙ c.clear.ensures))
