-- The texts of several columns, joined to one.
use Rattle.std.specs.Prelude.{ℕ, Bool, List, [], ◌∷◌, ◌++◌, ◌==◌, ◌||◌, if◌then◌else◌}
use Rattle.std.specs.List.{list_any, flat_map}

-- a space or a quotation mark
abbrev pub is_space_or_quote : ℕ → Bool
is_space_or_quote byte = byte == 32 || byte == 34

-- a byte of a text in quotation marks: a quotation mark is doubled
abbrev pub in_quotes : ℕ → List ℕ
in_quotes byte = if byte == 34 then 34 ∷ 34 ∷ [] else byte ∷ []

-- a text in quotation marks
abbrev pub quoted : List ℕ → List ℕ
quoted text = 34 ∷ (flat_map in_quotes text ++ 34 ∷ [])

-- the text of one of several columns: in quotation marks if it has a space or a quotation mark
abbrev pub part_of : List ℕ → List ℕ
part_of text = if list_any is_space_or_quote text then quoted text else text
