use Rattle.std.proofs.Common.{◌≡◌, max, take}
use Rattle.std.specs.List.{fold}
use Rattle.hdr_logs.specs.Stored.{end_of}
use Rattle.hdr_verdict.proofs.tags.last_end.Given as goal

abbrev pub invariant-loop-interval : goal.invariant-loop-interval
invariant-loop-interval l = l.end ≡ fold (λ end i. max end (end_of i)) 0 (take l.interval-index l.intervals)
