use Rattle.std.proofs.Common.{◌≡◌, ◌++◌, take, string_bytes}
use Rattle.std.specs.List.{flat_map}
use Rattle.hdr_log.specs.Pieces.{Comment, piece_text}
use Rattle.hdrhistogram.proofs.serialization.interval_log.builder.push_comments.Given as goal

-- the comments so far
abbrev pub invariant-loop-comment : goal.invariant-loop-comment
invariant-loop-comment l = l.text.items ≡ l.fn.text.items ++ flat_map (λ comment. piece_text (Comment (string_bytes comment))) (take l.comment-index l.comments)
