-- What a handle owns: the block of its histogram.
use Rattle.std.specs.Prelude.{Option, Some, None}
use base.Fml.{Fml, ftrue}
use base.Stored.{Coded}
use denote.RawPtr.{Ptr}
use Rattle.std.specs.Box.Ownership.{box_owns}
use Rattle.std.specs.Global.{Global}
use Rattle.std.specs.Coded.{coded_option}
use Rattle.std_heap.specs.contracts.GlobalAllocator.TheImpl.{ghosts}
use Rattle.hdr_c.specs.contracts.held.Held.{the_row}

-- the block at a pointer, which has a histogram, with the right to free it; or nothing
abbrev pub owned : Global → Ptr → Option the_row.Denot → Fml
owned alloc at (Some h) = box_owns (ghosts.dealloc_token alloc) the_row at h
owned alloc at None = ftrue

-- how a proof stores the histogram of a handle
abbrev pub held_coded : Coded (Option the_row.Denot)
held_coded = coded_option the_row.coded
