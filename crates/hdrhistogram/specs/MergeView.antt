-- A merge as the code holds it.
use Rattle.hdrhistogram.specs.LogMerging as merging
use Rattle.hdrhistogram.specs.declared.serialization.interval_log.merge.Merging.{Merging}

abbrev pub view_of_merging : {T : Type 0} → Merging T → merging.Merging
view_of_merging m = record { histogram = m.histogram; intervals = m.intervals; chosen = m.chosen; coarser = m.coarser }
