use Rattle.hdr_tool.proofs.Common.{Keeps}
use Rattle.hdr_tool.proofs.stream.RetryWriterWrite.write.Given as goal

-- an interrupted write wrote nothing
abbrev pub invariant-loop : goal.invariant-loop
invariant-loop g l = Keeps (g.W.Write.contents l.fn.self.writer) (g.W.Write.contents l.self.writer)
