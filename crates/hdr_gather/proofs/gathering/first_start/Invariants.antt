use Rattle.std.proofs.Common.{ℕ, ◌≤◌, ◌↔◌, IfSome, take}
use Rattle.std.specs.List.{All}
use Rattle.hdr_gather.specs.Left.{IsFrom}
use Rattle.hdr_gather.proofs.gathering.first_start.Given as goal

-- the first of the next intervals of the logs so far
abbrev pub invariant-loop-log : goal.invariant-loop-log
invariant-loop-log g l = (low : ℕ) → IfSome l.first (λ t. low ≤ t) ↔ All (IsFrom low) (take l.log-index l.logs)
