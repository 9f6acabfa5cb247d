-- Tags by file: what follows the last @ is the name of the file.
use Rattle.std.proofs.Common.{◌≡◌, ℕ, ◌==◌, ◌||◌, Bool, true, false, List, [], ◌∷◌, ◌++◌, get_or, Option, Some, None, inl, inr, refl, sym, ap, subst, ◌∙◌, arith, chars, if◌then◌else◌}
use Rattle.std.specs.Char.{encode_utf8}
use Rattle.std.specs.List.{Contains, flat_map}
use Rattle.std.proofs.lemmas.List.{get_or_default}
use Rattle.std.proofs.lemmas.List.Elements.{Contains-append_right, Contains-append_cases}
use Rattle.std.proofs.lemmas.Str.{inside_one}
use mathlib.Core.List.{append-nil}
use Rattle.hdr_logs.specs.FileNames.{HasNoAt, char_in_tags, name_in_tags, tag_in_file}

with_at : (a m : List ℕ) → Contains (a ++ 64 ∷ m) 64
with_at a m = Contains-append_right a (64 ∷ m) 64 (0, omega arith, refl)

-- the last @ of two equal texts
split : (a b n m : List ℕ) → HasNoAt n → HasNoAt m → a ++ 64 ∷ n ≡ b ++ 64 ∷ m → (n ≡ m) × (a ≡ b)
split [] [] n m p q e = (cc, refl)
split [] (y ∷ b) n m p q e = let rest : n ≡ b ++ 64 ∷ m = cc in absurd (p (subst (λ l. Contains l 64) (sym rest) (with_at b m)))
split (x ∷ a) [] n m p q e = let rest : a ++ 64 ∷ n ≡ m = cc in absurd (q (subst (λ l. Contains l 64) rest (with_at a n)))
split (x ∷ a) (y ∷ b) n m p q e =
    let rest : a ++ 64 ∷ n ≡ b ++ 64 ∷ m = cc in
    let both = split a b n m p q rest in
    let first : x ≡ y = cc in
    let tags : a ≡ b = both.1 in
    (both.0, cc)

-- equal tags by file are those of the same file and of the same tag
pub differ : (n m : List ℕ) (t u : Option (List ℕ)) → HasNoAt n → HasNoAt m → tag_in_file n t ≡ tag_in_file m u → (n ≡ m) × (t ≡ u)
differ n m None None p q e = (e, refl)
differ n m None (Some b) p q e = absurd (p (subst (λ l. Contains l 64) (sym e) (with_at b m)))
differ n m (Some a) None p q e = absurd (q (subst (λ l. Contains l 64) e (with_at a n)))
differ n m (Some a) (Some b) p q e = let both = split a b n m p q e in (both.0, ap Some both.1)

-- no character of a name is an @
replaced : (b : Bool) (c : ℕ) → (c ≡ 64 → b ≡ true) → (if b then 95 else c) ≡ 64 → ⊥
replaced true c h e = absurd (omega (arith, e))
replaced false c h e = let t : false ≡ true = h e in cc

not_at : (c : ℕ) → char_in_tags c ≡ 64 → ⊥
not_at c e = replaced (c == 44 || c == 32 || c == 13 || c == 10 || c == 64) c (λ is. rw is refl) e

in_char : (c : ℕ) → Contains (encode_utf8 c) 64 → c ≡ 64
in_char c h =
    let here : get_or (encode_utf8 c) h.0 0 ≡ 64 = get_or_default (encode_utf8 c) h.0 0 64 h.1 ∙ h.2 in
    inside_one c [] (encode_utf8 c) h.0 (sym (append-nil _)) h.1 (omega (arith, here)) ∙ here

none_in : (cs : List ℕ) → Contains (flat_map (λ c. encode_utf8 (char_in_tags c)) cs) 64 → ⊥
none_in [] h = absurd (omega (arith, h.1))
none_in (c ∷ cs) h =
    elim (Contains-append_cases (encode_utf8 (char_in_tags c)) (flat_map (λ c. encode_utf8 (char_in_tags c)) cs) 64 h) [
      | inl here ↦ not_at c (in_char (char_in_tags c) here)
      | inr after ↦ none_in cs after
    ]

pub no_at : (name : List ℕ) → HasNoAt (name_in_tags name)
unfolding name_in_tags
no_at name = none_in (chars name)
