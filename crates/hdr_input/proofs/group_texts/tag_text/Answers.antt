use Rattle.std.proofs.Common.{◌≡◌, ◌∙◌, sym, map-id, chars}
use Rattle.std.proofs.lemmas.Iterator.{YieldsList-from_chars}
use Rattle.std.proofs.lemmas.Iterator.Consumers.{YieldsList-end}
use Rattle.hdr_input.specs.Groups.{tag_text}
use Rattle.hdr_input.proofs.group_texts.tag_text.Goals as goal

pub returns : goal.returns
unfolding tag_text
returns c =
    let t = YieldsList-end (YieldsList-from_chars c.args.text.now c.utf8.text cc) c.loop-character.yielded _ c.loop-character.yielded_by _ _ c.in-None.is c.next.ensures.steps in
    let e : c.loop-character.yielded ≡ chars c.args.text.now = sym (map-id _) ∙ t.0 in
    rw (← e) c.loop-character.invariant
