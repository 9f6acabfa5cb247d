use Rattle.std.specs.List.{AllWithin}
use Rattle.hdr_gather.specs.Left.{IsNextIn}
use Rattle.hdr_gather.proofs.gathering.are_next_in.Given as goal

-- the next intervals of the logs so far are in the scale
abbrev pub invariant-loop-log : goal.invariant-loop-log
invariant-loop-log g l = AllWithin (IsNextIn l.decimals l.unit) l.logs 0 l.log-index
