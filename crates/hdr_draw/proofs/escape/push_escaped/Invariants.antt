use Rattle.std.proofs.Common.{◌≡◌, ◌++◌, string_bytes}
use Rattle.std.specs.List.{flat_map}
use Rattle.hdr_draw.specs.Letters.{escaped}
use Rattle.hdr_draw.proofs.escape.push_escaped.Given as goal

abbrev pub invariant-loop-character : goal.invariant-loop-character
invariant-loop-character l = string_bytes l.text ≡ string_bytes l.initial.text ++ flat_map escaped l.yielded
