use Rattle.std.proofs.Common.{◌≡◌, string_bytes}
use Rattle.std.specs.Char.{encode_utf8}
use Rattle.std.specs.List.{flat_map}
use Rattle.hdr_logs.specs.FileNames.{char_in_tags}
use Rattle.hdr_logs.proofs.file_names.name_in_tags.Given as goal

-- the characters so far
abbrev pub invariant-loop-character : goal.invariant-loop-character
invariant-loop-character l = string_bytes l.text ≡ flat_map (λ c. encode_utf8 (char_in_tags c)) l.yielded
