use Rattle.hdr_runs.specs.Batched.{RecordsTimes}
use Rattle.hdr_runs.proofs.batch_tally.BatchTallyNumberSink.record_times.Goals as goal

pub returns-clause-number : goal.returns-clause-number
unfolding RecordsTimes
returns-clause-number c = c.record_times.ensures.taken
