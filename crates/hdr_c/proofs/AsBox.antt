-- The pointer of a handle, and the raw parts of a box, own what the box owns.
use mir.Syntax.{impl, tnil, dnil}
use mathlib.Core.Path.{◌≡◌, refl}
use mathlib.Core.Bool.{true}
use mathlib.Core.List.{[]}
use Rattle.std.specs.Prelude.{Option, Some, None, is_some}
use Rattle.std.proofs.Common.{arith}
use denote.Signature.{Slot, plain}
use Rattle.std_alloc.proofs.BoxSteps.Form.{Bx}
use Rattle.std_heap.specs.contracts.Global as Heap
use Rattle.std_heap.specs.contracts.GlobalAllocator.TheImpl.{ghosts, dict}
use Rattle.std_heap.proofs.Global.TheLaws as heap
use Rattle.hdr_c.specs.contracts.held.Held as Held
use Rattle.hdr_c.proofs.held.Held.TheLaws as held_laws
use Rattle.hdr_c.specs.contracts.raw_parts.RawParts as RawParts
use Rattle.hdr_c.specs.contracts.pointer.Pointer as Pointer

abbrev pub E : Bx
E = record { row = Held.the_row; laws = held_laws.the_row_laws; al = record { row = Heap.the_row; laws = heap.the_row_laws; g = ghosts; d = dict; drops = impl [] tnil dnil } }

abbrev pub FromParts : Slot 0
FromParts = plain (λ _. RawParts.the_row Held.the_row Heap.the_row ghosts)

abbrev pub FromLoose : Slot 0
FromLoose = plain (λ _. Pointer.the_row)

abbrev pub FromGlobal : Slot 0
FromGlobal = plain (λ _. Heap.the_row)

-- an option that holds something, and what it holds
pub some_of : {A : Type 0} (o : Option A) → is_some o ≡ true → (x : A) × (o ≡ Some x)
some_of (Some x) e = (x, refl)
some_of None e = grind arith
