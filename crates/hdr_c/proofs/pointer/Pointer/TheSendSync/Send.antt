-- The pointer and the block that it owns may go to another thread.
use mir.Raw.{raw}
use base.Shift.{Keyless}
use denote.Memory.{lone}
use denote.RawPtr.{Ptr}
use denote.Struct.Struct.{exits_of}
use denote.Struct.Owning.{shape, fields, to}
use denote.Param.Send.{IsSend, AllSend, owning_send, struct_send, sendable}
use Rattle.std.proofs.Crossing as heap
use Rattle.std.specs.Global.{Global}
use Rattle.std.specs.Prelude.{Option, Some, None}
use Rattle.std_alloc.proofs.SendSync.{quiet, lies}
use Rattle.std_heap.proofs.Global.TheSendSync as handle
use Rattle.hdr_c.specs.Owned.{owned}
use Rattle.hdr_c.specs.contracts.held.Held as Held
use Rattle.hdr_c.proofs.held.Held.TheSendSync.{the_send as held_send}
use Rattle.hdr_c.specs.contracts.pointer.Pointer.{the_row, the_type}

names_no_key : (alloc : Global) (at : Ptr) (held : Option Held.the_row.Denot) → Keyless (owned alloc at held)
names_no_key alloc at (Some h) = (lies Held.the_row held_send at h, heap.frees.frees alloc (raw (lone Held.the_row.mir)) at)
names_no_key alloc at None = tt

pub send : IsSend the_row
send =
    let all : AllSend (fields the_type) = (search sendable, (handle.the_field_send, tt)) in
    owning_send the_type all (λ d. names_no_key d.alloc d.at d.held)
    (λ k. quiet (to the_type) (exits_of k (fields the_type)) ((struct_send (shape the_type) all).leaving k))
