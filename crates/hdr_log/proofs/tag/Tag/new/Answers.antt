use Rattle.std.proofs.Common.{◌≡◌, true, arith}
use Rattle.std.specs.Str.{is_utf8}
use Rattle.std.proofs.lemmas.Str.{is_utf8-from_IsUtf8}
use Rattle.hdr_log.proofs.tag.Tag.new.Goals as goal

pub invariant_of-result : goal.invariant_of-result
invariant_of-result c = let u : is_utf8 c.args.text.now ≡ true = is_utf8-from_IsUtf8 c.args.text.now c.utf8.text in
    record { allowed = grind (arith, u) }
