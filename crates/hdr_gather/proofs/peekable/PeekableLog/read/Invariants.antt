use Rattle.std.proofs.Common.{◌≡◌, List}
use Rattle.hdr_logs.specs.Stored.{Stored}
use Rattle.hdr_gather.specs.Left.{UnreadHold, IsKnown}
use Rattle.hdr_gather.proofs.peekable.PeekableLog.read.Given as goal

-- the lines so far have no interval, and the next one stays
abbrev pub invariant-loop : goal.invariant-loop
invariant-loop g l = record {
  next : l.self.next ≡ l.initial.self.next;
  left : (rest : List Stored) → UnreadHold g.R.Read.remaining l.self rest → UnreadHold g.R.Read.remaining l.initial.self rest;
  known : IsKnown g.R.Read.remaining l.initial.self → IsKnown g.R.Read.remaining l.self;
}
