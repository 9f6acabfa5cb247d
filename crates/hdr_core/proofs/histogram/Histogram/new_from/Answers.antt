use Rattle.hdr_core.proofs.histogram.Histogram.new_from.Goals as goal

pub returns-clause-made : goal.returns-clause-made
returns-clause-made g c = rw (← c.source.view_is) c.empty.ensures
