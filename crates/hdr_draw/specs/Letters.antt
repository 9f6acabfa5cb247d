-- Texts in HTML.
use Rattle.std.specs.Prelude.{ℕ, ◌==◌, Bool, true, false, List, [], ◌∷◌, ◌++◌, codes, chars, if◌then◌else◌}
use Rattle.std.specs.Char.{encode_utf8}
use Rattle.std.specs.List.{flat_map}
use Rattle.std.specs.Str.{bytes_eq}

-- how a character is written in HTML: the five that HTML reserves as their entities
unfoldable pub escaped : ℕ → List ℕ
escaped character =
    if character == 38 then codes "&amp;"
    else (if character == 60 then codes "&lt;"
    else (if character == 62 then codes "&gt;"
    else (if character == 34 then codes "&quot;"
    else (if character == 39 then codes "&#39;"
    else encode_utf8 character))))

-- a text as HTML writes it: each of its characters
unfoldable pub escaped_text : List ℕ → List ℕ
escaped_text text = flat_map escaped (chars text)

-- the byte of an entity, by what is between its & and its ;
abbrev pub entity : List ℕ → List ℕ
entity name =
    if bytes_eq name (codes "amp") then 38 ∷ []
    else (if bytes_eq name (codes "lt") then 60 ∷ []
    else (if bytes_eq name (codes "gt") then 62 ∷ []
    else (if bytes_eq name (codes "quot") then 34 ∷ []
    else (if bytes_eq name (codes "#39") then 39 ∷ []
    else []))))

-- what a browser reads up to a <, which begins a tag; after an & and a name up to here if in_entity
abbrev pub read_html : Bool → List ℕ → List ℕ → List ℕ
read_html in_entity name [] = []
read_html false name (b ∷ bs) = if b == 38 then read_html true [] bs else (if b == 60 then [] else b ∷ read_html false [] bs)
read_html true name (b ∷ bs) = if b == 59 then entity name ++ read_html false [] bs else read_html true (name ++ b ∷ []) bs

-- the text that a browser reads
unfoldable pub unescaped : List ℕ → List ℕ
unescaped html = read_html false [] html
