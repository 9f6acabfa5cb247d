-- Texts around a comma.
use Rattle.std.proofs.Common.{◌≡◌, ℕ, suc, ◌+◌, ◌<◌, ◌==◌, true, List, [], ◌∷◌, ◌++◌, length, take, drop, get_or, sym, ap, ◌∙◌, arith, eqb-true, drop-cons, length-drop, take-append-drop, append_assoc}
use Rattle.std.proofs.lemmas.List.{get_or-drop}
use Rattle.std.proofs.lemmas.Grind.{get_or_default_zero}
use Rattle.std.specs.Prelude.{Contains}
use Rattle.memchr.specs.Find.{Nowhere, Passes, is_byte}

pub around_comma : (text : List ℕ) (i : ℕ) → i < length text → (get_or text i 0 == 44) ≡ true → text ≡ take i text ++ 44 ∷ drop (i + 1) text
around_comma text i l is =
    let next : suc i ≡ i + 1 = omega arith in
    sym (take-append-drop i text) ∙ ap (λ s. take i text ++ s) (drop-cons text i 0 l ∙ ap (λ x. x ∷ drop (suc i) text) (eqb-true (get_or text i 0) 44 is) ∙ ap (λ k. 44 ∷ drop k text) next)

-- four texts, appended one after another
pub line_appended : (old front field a b c d : List ℕ) → a ≡ old ++ front → b ≡ a ++ 44 ∷ [] → c ≡ b ++ field → d ≡ c ++ 10 ∷ [] → d ≡ old ++ (front ++ 44 ∷ (field ++ 10 ∷ []))
line_appended old front field a b c d p q r s =
    s ∙ ap (λ t. t ++ 10 ∷ []) (r ∙ ap (λ t. t ++ field) (q ∙ ap (λ t. t ++ 44 ∷ []) p)) ∙ simp append_assoc

-- What follows the last comma has none.
pub no_comma_after : (text : List ℕ) (i : ℕ) → Nowhere (Passes (is_byte 44) text) (i + 1) (length text)
    → Contains (drop (i + 1) text) 44 → ⊥
no_comma_after text i none (k, lt, is) =
    let len = length-drop (i + 1) text in
    let inside : i + 1 + k < length text = omega (arith, len, lt) in
    let at = sym (get_or_default_zero text (i + 1 + k) 44 inside) ∙ sym (get_or-drop (i + 1) text k 44) ∙ is in
    none (i + 1 + k) (omega arith) inside (ap (λ x. x == 44) at)

pub no_comma : (text : List ℕ) → Nowhere (Passes (is_byte 44) text) 0 (length text) → Contains text 44 → ⊥
no_comma text none (k, lt, is) = none k (omega arith) lt (ap (λ x. x == 44) (sym (get_or_default_zero text k 44 lt) ∙ is))
