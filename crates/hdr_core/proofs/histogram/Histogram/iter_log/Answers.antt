use Rattle.hdr_core.proofs.histogram.Histogram.iter_log.Goals as goal

pub returns : goal.returns
returns g c = c.new.ensures
