-- Logs that go on from a time.
use Rattle.std.proofs.Common.{ℕ, ◌+◌, ◌≤◌, List, [], ◌∷◌, Option, Some, None, IfSome, arith}
use Rattle.std.specs.List.{All}
use Rattle.std.proofs.lemmas.List.Elements.{All-cons, All-nil}
use Rattle.hdr_gather.specs.declared.peekable.PeekableLog.{PeekableLog}
use Rattle.hdr_gather.specs.Left.{next_start, IsFrom}

-- logs go on from 0
pub all_from_0 : {R : Type 0} (logs : List (PeekableLog R)) → All (IsFrom 0) logs
all_from_0 [] = All-nil (IsFrom 0)
all_from_0 (x ∷ logs) = All-cons (IsFrom 0) x logs (from_0 (next_start x)) (all_from_0 logs)
  where
    from_0 : (o : Option ℕ) → IfSome o (λ t. 0 ≤ t)
    from_0 None = tt
    from_0 (Some t) = omega arith

-- a log that goes on from a later time
pub from_later : {R : Type 0} (log : PeekableLog R) (start : ℕ) → IsFrom (start + 1) log → IsFrom start log
from_later log start h = by_next (next_start log) h
  where
    by_next : (o : Option ℕ) → IfSome o (λ t. start + 1 ≤ t) → IfSome o (λ t. start ≤ t)
    by_next None h = tt
    by_next (Some t) h = omega (arith, h)
