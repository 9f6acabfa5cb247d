-- A `&mut` to the histogram of a pointer: what is written through it is the pointer's histogram.
use Rattle.std.specs.Prelude.{Some}
use Rattle.std.specs.Borrow.{Lends, MutBor, Fml}
use Rattle.hdr_model.specs.Plain.{Plain}
use Rattle.hdr_c.specs.declared.pointer.Pointer.{Pointer}
use Rattle.hdr_c.specs.contracts.pointer.Pointer.{the_row}
use Rattle.hdr_c.specs.contracts.held.Held as Held

-- the pointer with another histogram
abbrev pub with_held : Pointer → Plain → Pointer
with_held p w = record p { held = Some w }

-- the pointer ends with the last histogram behind the reference
abbrev pub pointer_follows : MutBor Pointer → MutBor Plain → Fml
pointer_follows s r = Lends the_row Held.the_row s r (with_held s.now)
