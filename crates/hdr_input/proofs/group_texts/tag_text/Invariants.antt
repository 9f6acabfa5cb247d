use Rattle.std.proofs.Common.{◌≡◌, string_bytes}
use Rattle.std.specs.List.{flat_map}
use Rattle.hdr_input.specs.Groups.{in_tag}
use Rattle.hdr_input.proofs.group_texts.tag_text.Given as goal

-- the characters so far
abbrev pub invariant-loop-character : goal.invariant-loop-character
invariant-loop-character l = string_bytes l.tag ≡ flat_map in_tag l.yielded
