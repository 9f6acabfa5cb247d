use Rattle.std.proofs.Common.{length}
use Rattle.hdr_frames.proofs.run_frames.Given as goal

abbrev pub decreases-loop-len : goal.decreases-loop-len
decreases-loop-len l = length l.rest
