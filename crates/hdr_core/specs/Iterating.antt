-- What the iterators see of a histogram. (Our own: the Rust crate's iterators hold the histogram.)
use Rattle.std.specs.Prelude.{unwrap_or}
use Rattle.hdr_model.specs.Plain.{Plain, resolution}
use Rattle.hdr_iterators.specs.Seen.{Seen}

-- its classes, its numbers, the total, and the top mark's bin, or the first if there is none
abbrev pub bins_seen : Plain → Seen
bins_seen h = record { resolution = resolution h; numbers = h.counts; total = h.total; last = unwrap_or h.top_mark 0 }
