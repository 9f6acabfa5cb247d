-- A browser reads an escaped text as the text itself.
use Rattle.std.proofs.Common.{◌≡◌, ℕ, ◌<◌, ◌==◌, suc, false, List, [], ◌∷◌, ◌++◌, length, get_or, arith, sym, ap, ◌∙◌, refl, subst, inl, inr, chars, IsUtf8, ne_eqb}
use Rattle.std.specs.Char.{encode_utf8}
use Rattle.std.specs.Str.{encode_utf8_all}
use Rattle.std.specs.List.{flat_map}
use Rattle.std.proofs.lemmas.Bool.{cases_eq}
use Rattle.std.proofs.lemmas.Str.{encodes-chars, inside_one}
use mathlib.Core.List.{append-nil}
use Rattle.hdr_draw.specs.Letters.{escaped, escaped_text, unescaped, read_html}

-- no byte of these is an & or a <
abbrev Free : List ℕ → Type 0
Free bs = (k : ℕ) → k < length bs → (get_or bs k 0 ≡ 38 → ⊥) × (get_or bs k 0 ≡ 60 → ⊥)

copied : (bs rest : List ℕ) → Free bs → read_html false [] (bs ++ rest) ≡ bs ++ read_html false [] rest
copied [] rest f = refl
copied (b ∷ bs) rest f =
    let g : (b ≡ 38 → ⊥) × (b ≡ 60 → ⊥) = f 0 (omega arith) in
    let n : (b == 38) ≡ false = ne_eqb b 38 g.0 in
    let m : (b == 60) ≡ false = ne_eqb b 60 g.1 in
    let i : read_html false [] (bs ++ rest) ≡ bs ++ read_html false [] rest = copied bs rest (λ k l. f (suc k) (omega arith)) in
    rw (n, m, i) refl

is_byte : (c k byte : ℕ) → byte < 128 → k < length (encode_utf8 c) → get_or (encode_utf8 c) k 0 ≡ byte → c ≡ byte
is_byte c k byte h l e =
    let i : c ≡ get_or (encode_utf8 c) k 0 = inside_one c [] (encode_utf8 c) k (sym (append-nil _)) l (omega (arith, h, e)) in
    i ∙ e

free : (c : ℕ) → (c ≡ 38 → ⊥) → (c ≡ 60 → ⊥) → Free (encode_utf8 c)
free c n m k l = (λ e. n (is_byte c k 38 (omega arith) l e), λ e. m (is_byte c k 60 (omega arith) l e))

abbrev Reads : ℕ → Type 0
Reads c = (rest : List ℕ) → read_html false [] (escaped c ++ rest) ≡ encode_utf8 c ++ read_html false [] rest

reads_38 : Reads 38
unfolding escaped encode_utf8
reads_38 rest = refl

reads_60 : Reads 60
unfolding escaped encode_utf8
reads_60 rest = refl

reads_62 : Reads 62
unfolding escaped encode_utf8
reads_62 rest = refl

reads_34 : Reads 34
unfolding escaped encode_utf8
reads_34 rest = refl

reads_39 : Reads 39
unfolding escaped encode_utf8
reads_39 rest = refl

as_it_is : (c : ℕ) → (c ≡ 38 → ⊥) → (c ≡ 60 → ⊥) → (c ≡ 62 → ⊥) → (c ≡ 34 → ⊥) → (c ≡ 39 → ⊥) → escaped c ≡ encode_utf8 c
unfolding escaped
as_it_is c a b d e f = rw (ne_eqb c 38 a, ne_eqb c 60 b, ne_eqb c 62 d, ne_eqb c 34 e, ne_eqb c 39 f) refl

others : (c : ℕ) → (c ≡ 38 → ⊥) → (c ≡ 60 → ⊥) → (c ≡ 62 → ⊥) → (c ≡ 34 → ⊥) → (c ≡ 39 → ⊥) → Reads c
others c a b d e f rest = rw (as_it_is c a b d e f) (copied (encode_utf8 c) rest (free c a b))

read_letter : (c : ℕ) → Reads c
read_letter c = elim (cases_eq c 38) [
  | inl p ↦ subst Reads (sym p) reads_38
  | inr a ↦ elim (cases_eq c 60) [
    | inl p ↦ subst Reads (sym p) reads_60
    | inr b ↦ elim (cases_eq c 62) [
      | inl p ↦ subst Reads (sym p) reads_62
      | inr d ↦ elim (cases_eq c 34) [
        | inl p ↦ subst Reads (sym p) reads_34
        | inr e ↦ elim (cases_eq c 39) [
          | inl p ↦ subst Reads (sym p) reads_39
          | inr f ↦ others c a b d e f
        ]
      ]
    ]
  ]
]

read_letters : (cs : List ℕ) → read_html false [] (flat_map escaped cs) ≡ encode_utf8_all cs
read_letters [] = refl
read_letters (c ∷ cs) = read_letter c (flat_map escaped cs) ∙ ap (λ bs. encode_utf8 c ++ bs) (read_letters cs)

pub read_back : (text : List ℕ) → IsUtf8 text → unescaped (escaped_text text) ≡ text
unfolding unescaped escaped_text
read_back text u = read_letters (chars text) ∙ encodes-chars text u
