-- The lines of a comment.
use Rattle.std.proofs.Common.{◌≡◌, ℕ, List, [], ◌∷◌, ◌++◌, Some, None, refl, sym, ap, ◌∙◌, append_assoc}
use Rattle.std.specs.Prelude.{map}
use Rattle.hdr_log.specs.Parts.{split_at_byte}
use Rattle.hdr_log.specs.Texts.{with_line_feed, lines_text, comment_line}
use Rattle.hdr_log.specs.Pieces.{Comment, piece_text}
use Rattle.hdr_log.proofs.GrammarSteps.{split_parted, split_none}

pub append_nothing : (xs : List ℕ) → xs ++ [] ≡ xs
append_nothing [] = refl
append_nothing (x ∷ xs) = ap (λ t. x ∷ t) (append_nothing xs)

comment_step : (text part after_front : List ℕ) → Some (part, after_front) ≡ split_at_byte 10 text → piece_text (Comment text) ≡ with_line_feed (comment_line part) ++ piece_text (Comment after_front)
unfolding piece_text
comment_step text part after_front h = ap (λ ps. lines_text (map comment_line ps)) (split_parted text part after_front (sym h))

-- the last line
pub comment_last : (text : List ℕ) → None ≡ split_at_byte 10 text → piece_text (Comment text) ≡ with_line_feed (comment_line text)
unfolding piece_text
comment_last text h = ap (λ ps. lines_text (map comment_line ps)) (split_none text (sym h)) ∙ append_nothing (with_line_feed (comment_line text))

-- one more line
pub comment_more : (old now all part after_front rest : List ℕ) → old ++ piece_text (Comment rest) ≡ all → Some (part, after_front) ≡ split_at_byte 10 rest → now ≡ old ++ with_line_feed (comment_line part) → now ++ piece_text (Comment after_front) ≡ all
comment_more old now all part after_front rest h p e = ap (λ t. t ++ piece_text (Comment after_front)) e ∙ append_assoc old (with_line_feed (comment_line part)) (piece_text (Comment after_front)) ∙ ap (λ t. old ++ t) (sym (comment_step rest part after_front p)) ∙ h
