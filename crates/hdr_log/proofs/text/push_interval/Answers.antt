use Rattle.std.proofs.Common.{◌≡◌, List, ℕ, [], ◌∷◌, ◌++◌, append_assoc, sym, ap, ◌∙◌}
use Rattle.std.specs.Option.{option_map}
use Rattle.hdr_log.specs.Texts.{thousandths_text, tag_front, base64_of}
use Rattle.hdr_log.specs.Tags.{tag_text}
use Rattle.hdr_log.proofs.PiecesTexts.{measured_text}
use Rattle.hdr_log.proofs.TextsBase64.{base64_field}
use Rattle.hdr_log.proofs.text.push_interval.Goals as goal

joined : (t0 t1 t2 t3 t4 t5 t6 tag a b c f : List ℕ) → t1 ≡ t0 ++ tag → t2 ≡ t1 ++ a ++ 44 ∷ [] → t3 ≡ t2 ++ b ++ 44 ∷ [] → t4 ≡ t3 ++ c ++ 44 ∷ [] → t5 ≡ t4 ++ f → t6 ≡ t5 ++ 10 ∷ [] → t6 ≡ t0 ++ ((tag ++ (a ++ 44 ∷ (b ++ 44 ∷ (c ++ 44 ∷ f)))) ++ 10 ∷ [])
joined t0 t1 t2 t3 t4 t5 t6 tag a b c f e1 e2 e3 e4 e5 e6 = rw (e6, e5, e4, e3, e2, e1) (simp append_assoc)

pub returns-clause-text : goal.returns-clause-text
returns-clause-text c = joined c.args.text.now.items c.push_tag.new.text.items c.push_number_field.new.text.items c.push_number_field-2.new.text.items c.push_number_field-3.new.text.items c.push_base64.new.text.items c.push.new.self.items
    (tag_front (option_map tag_text c.args.tag)) (thousandths_text c.args.start) (thousandths_text c.args.duration) (thousandths_text c.args.max) (base64_of c.args.bytes.now)
    c.in_ok-push_tag.ensures.text c.in_ok-push_number_field.ensures c.in_ok-push_number_field-2.ensures c.in_ok-push_number_field-3.ensures c.in_ok-push_base64.ensures c.in_ok-push.ensures.items
    ∙ ap (λ t. c.args.text.now.items ++ t) (sym (measured_text (option_map tag_text c.args.tag) c.args.start c.args.duration c.args.max (base64_of c.args.bytes.now)))

pub returns-clause-piece : goal.returns-clause-piece
returns-clause-piece c = (c.push_tag.ensures.tag, c.requires.start, c.requires.duration, c.requires.max, base64_field c.args.bytes.now)

pub returns-in_err-push_tag-clause-piece : goal.returns-in_err-push_tag-clause-piece
returns-in_err-push_tag-clause-piece c = (c.push_tag.ensures.tag, c.requires.start, c.requires.duration, c.requires.max, base64_field c.args.bytes.now)

pub returns-in_err-push_number_field-clause-piece : goal.returns-in_err-push_number_field-clause-piece
returns-in_err-push_number_field-clause-piece c = (c.push_tag.ensures.tag, c.requires.start, c.requires.duration, c.requires.max, base64_field c.args.bytes.now)

pub returns-in_err-push_number_field-2-clause-piece : goal.returns-in_err-push_number_field-2-clause-piece
returns-in_err-push_number_field-2-clause-piece c = (c.push_tag.ensures.tag, c.requires.start, c.requires.duration, c.requires.max, base64_field c.args.bytes.now)

pub returns-in_err-push_number_field-3-clause-piece : goal.returns-in_err-push_number_field-3-clause-piece
returns-in_err-push_number_field-3-clause-piece c = (c.push_tag.ensures.tag, c.requires.start, c.requires.duration, c.requires.max, base64_field c.args.bytes.now)

pub returns-in_err-push_base64-clause-piece : goal.returns-in_err-push_base64-clause-piece
returns-in_err-push_base64-clause-piece c = (c.push_tag.ensures.tag, c.requires.start, c.requires.duration, c.requires.max, base64_field c.args.bytes.now)

pub returns-in_err-push-clause-piece : goal.returns-in_err-push-clause-piece
returns-in_err-push-clause-piece c = (c.push_tag.ensures.tag, c.requires.start, c.requires.duration, c.requires.max, base64_field c.args.bytes.now)
