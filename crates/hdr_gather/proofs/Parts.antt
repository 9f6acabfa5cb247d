-- What follows from a successful result.
use Rattle.std.proofs.Common.{Result, Ok, Err, OnOk}

-- what follows from what holds of a successful result
pub on_ok : {A E P Q : Type 0} (r : Result A E) → (P → Q) → OnOk r P → OnOk r Q
on_ok (Ok a) then p = then p
on_ok (Err e) then p = tt
