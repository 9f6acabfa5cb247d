-- Tags by file: the name of the file of a log is added to the tags of its intervals.
use Rattle.std.specs.Prelude.{ℕ, ◌==◌, ◌||◌, List, [], ◌∷◌, ◌++◌, Option, Some, None, chars, unwrap_or, if◌then◌else◌}
use Rattle.std.specs.Char.{encode_utf8}
use Rattle.std.specs.List.{flat_map, Contains}
use Rattle.hdr_logs.specs.Intervals.{LogInterval}

-- a character of a file's name as tags have it: `_` for a comma, a space, a CR, an LF and an @
abbrev pub char_in_tags : ℕ → ℕ
char_in_tags c = if c == 44 || c == 32 || c == 13 || c == 10 || c == 64 then 95 else c

-- the name of a file as tags have it
unfoldable pub name_in_tags : List ℕ → List ℕ
name_in_tags name = flat_map (λ c. encode_utf8 (char_in_tags c)) (chars name)

-- the tag of an interval by its file: the name of the file, after the tag and an @ if the interval has one
abbrev pub tag_in_file : List ℕ → Option (List ℕ) → List ℕ
tag_in_file name None = name
tag_in_file name (Some tag) = tag ++ 64 ∷ name

-- a name has no @
abbrev pub HasNoAt : List ℕ → Type 0
HasNoAt name = Contains name 64 → ⊥

-- the text of a tag, by its file if that has a name; without a tag it is empty, or the name
abbrev pub text_in_file : Option (List ℕ) → Option (List ℕ) → List ℕ
text_in_file None tag = unwrap_or tag []
text_in_file (Some name) tag = tag_in_file name tag

-- an interval with its tag by its file, if tags are by file
abbrev pub in_file : Option (List ℕ) → LogInterval → LogInterval
in_file None i = i
in_file (Some name) i = record { time = i.time; tag = Some (tag_in_file name i.tag); duration = i.duration; field = i.field }
