use Rattle.std.proofs.Common.{length}
use Rattle.hdr_input.proofs.json_lines.JsonLinesLineSink.take_lines.Given as goal

abbrev pub decreases-loop-rest : goal.decreases-loop-rest
decreases-loop-rest g l = length l.rest
