use Rattle.std.proofs.Common.{◌≡◌, ◌++◌, length}
use Rattle.hdr_log.specs.Pieces.{Comment, piece_text}
use Rattle.hdr_log.proofs.text.push_comment.Given as goal

-- what is written, and what is left
abbrev pub invariant-loop-part : goal.invariant-loop-part
invariant-loop-part l = l.text.items ++ piece_text (Comment l.rest) ≡ l.fn.text.items ++ piece_text (Comment l.fn.comment)

abbrev pub decreases-loop-part : goal.decreases-loop-part
decreases-loop-part l = length l.rest
