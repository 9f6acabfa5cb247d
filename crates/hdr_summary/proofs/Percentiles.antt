-- The texts of percentiles.
use Rattle.std.proofs.Common.{◌≡◌, ◌≢◌, ◌⊎◌, ◌==◌, ◌||◌, ◌<◌, ℕ, Bool, true, zero, suc, List, [], ◌∷◌, ◌++◌, length, get_or, refl, sym, ap, subst, ◌∙◌, inl, inr, arith}
use Rattle.std.specs.Char.{is_ascii_digit}
use Rattle.std.specs.List.{list_all}
use Rattle.std.proofs.lemmas.List.Folds.{list_all-append}
use Rattle.hdr_log.specs.Parts.{is_digits}
use Rattle.hdr_log.proofs.PartsDigits.{digits_all}
use Rattle.hdr_model.proofs.MergingKeeps.{both}
use Rattle.hdr_summary.specs.Percent.{IsMarked, IsSplit}

-- each byte is a digit or a point
abbrev is_part : ℕ → Bool
is_part b = is_ascii_digit b || (b == 46)

abbrev ArePart : List ℕ → Type 0
ArePart text = list_all is_part text ≡ true

digits-part : (text : List ℕ) → list_all is_ascii_digit text ≡ true → ArePart text
digits-part [] all = refl
digits-part (b ∷ text) all =
    let h = both (is_ascii_digit b) (list_all is_ascii_digit text) all in
    let rest = digits-part text h.1 in
    cc (h.0, rest)

-- the digits of a percentile
pub split-part : (digits whole part : List ℕ) → IsSplit digits whole part → is_digits whole ≡ true → is_digits part ≡ true → ArePart digits
split-part digits whole part split w p =
    let first = digits-part whole (digits_all whole w) in
    let last = digits-part part (digits_all part p) in
    elim split [
      | inl is ↦ subst ArePart (sym is) (list_all-append is_part whole (46 ∷ part) ∙ cc (first, last))
      | inr is ↦ subst ArePart (sym is.0) first
    ]

no-p : (text : List ℕ) → ArePart (112 ∷ text) → ⊥
no-p text all = cc

no-percent : (text : List ℕ) → ArePart (text ++ 37 ∷ []) → ⊥
no-percent text all =
    let h = both (list_all is_part text) (list_all is_part (37 ∷ [])) (sym (list_all-append is_part text (37 ∷ [])) ∙ all) in
    absurd (cc (h.1))

first-of : (b : ℕ) (l : List ℕ) (r : List ℕ) → b ∷ l ≡ 112 ∷ r → b ≡ 112
first-of b l r e = ap (λ x. get_or x 0 0) e

no-p-first : (b : ℕ) (d : List ℕ) → ArePart (b ∷ d) → b ≡ 112 → ⊥
no-p-first b d part is = no-p d (subst (λ x. ArePart (x ∷ d)) is part)

begins-otherwise : (d r : List ℕ) → ArePart d → d ++ 37 ∷ [] ≡ 112 ∷ r → ⊥
begins-otherwise [] r part e = let h : 37 ≡ 112 = first-of 37 [] r e in absurd (omega (arith, h))
begins-otherwise (b ∷ d) r part e = no-p-first b d part (first-of b (d ++ 37 ∷ []) r e)

-- what is left of a percentile without a `p` at its start
abbrev IsLeft : (rest digits : List ℕ) → Type 0
IsLeft rest digits = (rest ≡ digits) ⊎ (rest ≡ digits ++ 37 ∷ [])

of-digits : (text rest digits : List ℕ) → (rest ≡ text) ⊎ (text ≡ 112 ∷ rest) → ArePart digits → text ≡ digits → IsLeft rest digits
of-digits text rest digits (inl same) part is = inl (same ∙ is)
of-digits text rest digits (inr begins) part is = absurd (no-p rest (subst ArePart (sym is ∙ begins) part))

of-percent : (text rest digits : List ℕ) → (rest ≡ text) ⊎ (text ≡ 112 ∷ rest) → ArePart digits → text ≡ digits ++ 37 ∷ [] → IsLeft rest digits
of-percent text rest digits (inl same) part is = inr (same ∙ is)
of-percent text rest digits (inr begins) part is = absurd (begins-otherwise digits rest part (sym is ∙ begins))

pub after-p : (text rest digits : List ℕ) → (rest ≡ text) ⊎ (text ≡ 112 ∷ rest) → ((r : List ℕ) → text ≡ 112 ∷ r → rest ≡ r) → ArePart digits → IsMarked text digits → IsLeft rest digits
after-p text rest digits kept stripped part (inl is) = of-digits text rest digits kept part is
after-p text rest digits kept stripped part (inr (inl is)) = inl (stripped digits is)
after-p text rest digits kept stripped part (inr (inr (inl is))) = of-percent text rest digits kept part is
after-p text rest digits kept stripped part (inr (inr (inr is))) = inr (stripped (digits ++ 37 ∷ []) is)

-- and then without a `%` at its end
pub before-percent : (text start digits : List ℕ) → (start ≡ text) ⊎ (text ≡ start ++ 37 ∷ []) → ((s : List ℕ) → text ≡ s ++ 37 ∷ [] → start ≡ s) → ArePart digits → (text ≡ digits) ⊎ (text ≡ digits ++ 37 ∷ []) → start ≡ digits
before-percent text start digits kept stripped part is = elim is [
  | inl same ↦ elim kept [
    | inl stays ↦ stays ∙ same
    | inr ends ↦ absurd (no-percent start (subst ArePart (sym same ∙ ends) part))
  ]
  | inr ends ↦ stripped digits ends
]

-- no digit is a point
pub no-point : (text : List ℕ) → list_all is_ascii_digit text ≡ true → (i : ℕ) → i < length text → get_or text i 0 ≢ 46
no-point [] all i inside = absurd (omega (arith, inside))
no-point (b ∷ text) all zero inside = λ is.
    let h = both (is_ascii_digit b) (list_all is_ascii_digit text) all in
    absurd (cc (h.0, is))
no-point (b ∷ text) all (suc i) inside = no-point text (both (is_ascii_digit b) (list_all is_ascii_digit text) all).1 i (omega (arith, inside))

-- digits have no part after a point
pub not-split : (digits whole part : List ℕ) → list_all is_ascii_digit digits ≡ true → digits ≡ whole ++ 46 ∷ part → ⊥
not-split digits whole part all is =
    let h = both (list_all is_ascii_digit whole) (list_all is_ascii_digit (46 ∷ part)) (sym (list_all-append is_ascii_digit whole (46 ∷ part)) ∙ subst (λ d. list_all is_ascii_digit d ≡ true) is all) in
    absurd (cc (h.1))
