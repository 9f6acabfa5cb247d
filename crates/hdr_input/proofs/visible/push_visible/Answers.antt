use Rattle.std.proofs.Common.{◌≡◌, ◌∙◌, sym, map-id, chars}
use Rattle.std.proofs.lemmas.Iterator.{YieldsList-from_chars}
use Rattle.std.proofs.lemmas.Iterator.Consumers.{YieldsList-end}
use Rattle.hdr_input.specs.Visible.{visible_text}
use Rattle.hdr_input.proofs.visible.push_visible.Goals as goal

pub returns : goal.returns
unfolding visible_text
returns c =
    let t = YieldsList-end (YieldsList-from_chars c.args.plain.now c.utf8.plain cc) c.loop-character.yielded _ c.loop-character.yielded_by _ _ c.in-None.is c.next.ensures.steps in
    let e : c.loop-character.yielded ≡ chars c.args.plain.now = sym (map-id _) ∙ t.0 in
    rw (← e) c.loop-character.invariant
