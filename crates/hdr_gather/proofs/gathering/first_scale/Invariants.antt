use Rattle.std.proofs.Common.{◌≡◌, None}
use Rattle.std.specs.List.{AllWithin}
use Rattle.hdr_gather.proofs.gathering.first_scale.Given as goal

-- the logs so far have no interval
abbrev pub invariant-loop-log : goal.invariant-loop-log
invariant-loop-log g l = AllWithin (λ log. log.next ≡ None) l.logs 0 l.log-index
