use Rattle.std.proofs.Common.{◌≡◌, ◌∙◌, sym, map-id, chars}
use Rattle.std.proofs.lemmas.Iterator.{YieldsList-from_chars}
use Rattle.std.proofs.lemmas.Iterator.Consumers.{YieldsList-end}
use Rattle.hdr_logs.specs.FileNames.{name_in_tags}
use Rattle.hdr_logs.proofs.file_names.name_in_tags.Goals as goal

pub returns : goal.returns
unfolding name_in_tags
returns c =
    let t = YieldsList-end (YieldsList-from_chars c.args.name.now c.utf8.name cc) c.loop-character.yielded _ c.loop-character.yielded_by _ _ c.in-None.is c.next.ensures.steps in
    let e : c.loop-character.yielded ≡ chars c.args.name.now = sym (map-id _) ∙ t.0 in
    rw (← e) c.loop-character.invariant
