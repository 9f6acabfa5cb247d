-- The lines of an input with their numbers, and the command of a line. A text is a list of bytes,
-- and a line has no LF.
use Rattle.std.specs.Prelude.{◌∷◌, ◌++◌, ◌≡◌, ◌<◌, ◌==◌, ◌&&◌, if◌then◌else◌, ℕ, List, [], Option, Some, None, true, not, length, codes}
use Rattle.hdr_tool.specs.Common.{option_map, enumerate_from, list_all, parts, number_of, ◌>>=◌, bytes_eq, is_tag, tag_text}
use Rattle.std.specs.Char.{is_ascii_digit}
use Rattle.hdr_core.specs.declared.call.Call.{Call}
use Rattle.hdr_core.specs.declared.call.Call.TheVariants.{Record, Clamp, Correct, Clear, Reset}
use Rattle.hdr_tool.specs.declared.command.Command as code
use Rattle.hdr_tool.specs.declared.command.Command.TheVariants as code_command

-- the parts of the rest of a text, none without a rest
abbrev pub parts_of_rest : ℕ → Option (List ℕ) → List (List ℕ)
parts_of_rest b None = []
parts_of_rest b (Some text) = parts b text

-- the lines of the rest of a text, with their numbers from this one on
abbrev pub number_lines : ℕ → Option (List ℕ) → List (ℕ × List ℕ)
number_lines number left = enumerate_from number (parts_of_rest 10 left)

-- the number of the first field, and the fields after it
abbrev pub first_number : List (List ℕ) → Option (ℕ × List (List ℕ))
first_number [] = None
first_number (field ∷ fields) = option_map (λ n. (n, fields)) (number_of field)

-- a call, or an interval that ends, with its start and its duration in milliseconds and its tag
pub data Command : Type 0 where
  Apply : Call ℕ → Command
  End : ℕ → ℕ → Option (List ℕ) → Command

-- a value, if no field is left
abbrev pub alone : {A : Type 0} → A → List (List ℕ) → Option A
alone x [] = Some x
alone x _ = None

-- `[N]`: a count, or 1 if there is none
abbrev pub count_of : List (List ℕ) → Option ℕ
count_of [] = Some 1
count_of fields = first_number fields >>= λ p. alone p.0 p.1

-- `V [N]`, `V I [N]`
abbrev pub record_of : (ℕ → ℕ → Call ℕ) → List (List ℕ) → Option Command
record_of call fields = do
  (value, rest) ← first_number fields
  count ← count_of rest
  Some (Apply (call value count))

abbrev pub correct_of : List (List ℕ) → Option Command
correct_of fields = do
  (value, rest) ← first_number fields
  (interval, rest) ← first_number rest
  count ← count_of rest
  Some (Apply (Correct value count interval))

-- the tag of a field that is not empty
abbrev pub tag_of_word : List ℕ → Option (List ℕ)
tag_of_word word = if not (length word == 0) && is_tag word then Some word else None

-- `[TAG]`: a tag, if there is one
abbrev pub end_tag_of : List (List ℕ) → Option (Option (List ℕ))
end_tag_of [] = Some None
end_tag_of (word ∷ []) = option_map Some (tag_of_word word)
end_tag_of _ = None

-- `START DURATION [TAG]`
abbrev pub end_of : List (List ℕ) → Option Command
end_of fields = do
  (start, rest) ← first_number fields
  (duration, rest) ← first_number rest
  tag ← end_tag_of rest
  Some (End start duration tag)

-- the command of a name and of the fields after it
unfoldable pub command_of_name : List ℕ → List (List ℕ) → Option Command
command_of_name name fields =
    if bytes_eq name (codes "r") then record_of Record fields
    else if bytes_eq name (codes "s") then record_of Clamp fields
    else if bytes_eq name (codes "c") then correct_of fields
    else if bytes_eq name (codes "clear") then option_map Apply (alone Clear fields)
    else if bytes_eq name (codes "reset") then option_map Apply (alone Reset fields)
    else if bytes_eq name (codes "end") then end_of fields
    else None

abbrev pub command_of_fields : List (List ℕ) → Option Command
command_of_fields [] = None
command_of_fields (name ∷ fields) = command_of_name name fields

-- the command of a line, whose fields are separated by one space each
abbrev pub command_of : List ℕ → Option Command
command_of line = command_of_fields (parts 32 line)

-- a command as the code holds it
abbrev pub view_of_command : code.Command → Command
view_of_command (code_command.Apply call) = Apply call
view_of_command (code_command.End start duration tag) = End start duration (option_map tag_text tag)

-- a text starts with the digits of a number, and goes on with this byte and the rest
pub record BeginsWith (text : List ℕ) (value byte : ℕ) (rest : List ℕ) : Type 0 where
  pub digits : List ℕ
  pub are_digits : list_all is_ascii_digit digits ≡ true
  pub number : number_of digits ≡ Some value
  pub text_is : text ≡ digits ++ byte ∷ rest

-- fields are one number, or two
abbrev pub AreNumbers : List (List ℕ) → ℕ → Option ℕ → Type 0
AreNumbers fields n None = first_number fields ≡ Some (n, [])
AreNumbers fields n (Some m) = (rest : List (List ℕ)) × (first_number fields ≡ Some (n, rest)) × (first_number rest ≡ Some (m, []))

-- P holds of a text's first line, and this is the text after it
pub record FirstLine (text : List ℕ) (P : List ℕ → Type 0) (after : List ℕ) : Type 0 where
  pub line : List ℕ
  pub lines : parts 10 text ≡ line ∷ parts 10 after
  pub shorter : length after < length text
  pub fits : P line
