use Rattle.std.proofs.Common.{[], sym, subst, true}
use Rattle.hdr_model.specs.Samples.{StandsFor}
use Rattle.hdr_runs.proofs.batch_tally.BatchRecordingGroupMaker.make.Goals as goal

pub returns-in-Ok-clause-none : goal.returns-in-Ok-clause-none
returns-in-Ok-clause-none c = record {
  all = subst (λ h. StandsFor h []) (sym c.in_ok-tally.ensures.histogram) (c.clearing_stands.ensures.made 1 2 c.args.self.now.recording.sigfig true);
  batches = c.in-Ok.ensures.none;
}
