-- Texts as they are shown on a terminal.
use Rattle.std.specs.Prelude.{ℕ, ◌==◌, ◌&&◌, ◌||◌, nat_le, Bool, List, chars, if◌then◌else◌}
use Rattle.std.specs.Char.{encode_utf8}
use Rattle.std.specs.List.{flat_map}

-- from one number to another
abbrev pub is_between : ℕ → ℕ → ℕ → Bool
is_between low high n = nat_le low n && nat_le n high

-- a character that controls a terminal, has no width, or changes the direction of the text around it
unfoldable pub is_invisible : ℕ → Bool
is_invisible c =
    is_between 0 31 c || is_between 127 159 c || c == 0x61c || is_between 0x200b 0x200f c || is_between 0x2028 0x202e c || is_between 0x2060 0x206f c || c == 0xfeff

-- a character, or a question mark instead of an invisible one
abbrev pub shown : ℕ → ℕ
shown c = if is_invisible c then 63 else c

-- a text of which each invisible character is a question mark
unfoldable pub visible_text : List ℕ → List ℕ
visible_text text = flat_map (λ c. encode_utf8 (shown c)) (chars text)
