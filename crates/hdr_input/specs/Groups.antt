-- The texts of groups.
use Rattle.std.specs.Prelude.{ℕ, List, [], ◌∷◌, ◌++◌, ◌==◌, chars, codes, if◌then◌else◌}
use Rattle.std.specs.Char.{encode_utf8}
use Rattle.std.specs.List.{list_any, flat_map}
use Rattle.std.specs.Str.{bytes_eq}

-- the texts of groups after a row of this text: a new text comes last
abbrev pub with_text : List ℕ → List (List ℕ) → List (List ℕ)
with_text text texts = if list_any (bytes_eq text) texts then texts else texts ++ text ∷ []

-- a character as tags of logs have it: %25 for a percent sign, %2C for a comma, %20 for a space, %0D for a CR and %0A for an LF
abbrev pub in_tag : ℕ → List ℕ
in_tag c =
    if c == 37 then codes "%25" else if c == 44 then codes "%2C" else if c == 32 then codes "%20"
    else if c == 13 then codes "%0D" else if c == 10 then codes "%0A" else encode_utf8 c

-- the text of a group as a tag of a log
unfoldable pub tag_text : List ℕ → List ℕ
tag_text text = flat_map in_tag (chars text)
