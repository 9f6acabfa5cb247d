use Rattle.std.proofs.Common.{◌≡◌, ◌++◌, ap, sym, ◌∙◌, arith}
use Rattle.hdr_log.specs.Texts.{with_line_feed, comment_line}
use Rattle.hdr_log.specs.Pieces.{Comment, piece_text}
use Rattle.hdr_log.proofs.TextsComments.{comment_more, comment_last}
use Rattle.hdr_log.proofs.text.push_comment.Goals as goal

pub loop-part-preserved : goal.loop-part-preserved
loop-part-preserved c = comment_more c.loop-part.text.items c.push_comment_line.new.text.items _ c.in-Some.part.now c.in-Some.tail.now c.loop-part.rest.now c.loop-part.invariant c.in-Some.ensures.parts c.in_ok-push_comment_line.ensures

pub returns : goal.returns
returns c = let e : c.loop-part.text.items ++ with_line_feed (comment_line c.loop-part.rest.now) ≡ c.args.text.now.items ++ piece_text (Comment c.args.comment.now) = ap (λ t. c.loop-part.text.items ++ t) (sym (comment_last c.loop-part.rest.now c.in_default.ensures.parts)) ∙ c.loop-part.invariant in
    grind (arith, e, c.push_comment_line-2.ensures)
