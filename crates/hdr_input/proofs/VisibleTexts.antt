-- Texts as they are shown on a terminal.
use Rattle.std.proofs.Common.{◌≡◌, ℕ, Bool, true, false, List, [], ◌∷◌, ◌++◌, refl, ap, ◌∙◌, chars, IsUtf8}
use Rattle.std.specs.Char.{encode_utf8}
use Rattle.std.specs.Str.{encode_utf8_all}
use Rattle.std.specs.List.{All, flat_map}
use Rattle.std.proofs.lemmas.List.Elements.{All-head, All-tail}
use Rattle.std.proofs.lemmas.Str.{encodes-chars}
use Rattle.hdr_input.specs.Visible.{is_invisible, shown, visible_text}

question_mark : is_invisible 63 ≡ false
unfolding is_invisible
question_mark = refl

shown_if : (b : Bool) (c : ℕ) → is_invisible c ≡ b → is_invisible (shown c) ≡ false
shown_if true c e = rw e question_mark
shown_if false c e = rw e e

pub not_invisible : (c : ℕ) → is_invisible (shown c) ≡ false
not_invisible c = shown_if (is_invisible c) c refl

same_all : (cs : List ℕ) → All (λ c. is_invisible c ≡ false) cs → flat_map (λ c. encode_utf8 (shown c)) cs ≡ encode_utf8_all cs
same_all [] all = refl
same_all (c ∷ cs) all =
    let e : is_invisible c ≡ false = All-head (λ c. is_invisible c ≡ false) c cs all in
    rw e (ap (λ bs. encode_utf8 c ++ bs) (same_all cs (All-tail (λ c. is_invisible c ≡ false) c cs all)))

pub same_text : (text : List ℕ) → IsUtf8 text → All (λ c. is_invisible c ≡ false) (chars text) → visible_text text ≡ text
unfolding visible_text
same_text text u all = same_all (chars text) all ∙ encodes-chars text u
