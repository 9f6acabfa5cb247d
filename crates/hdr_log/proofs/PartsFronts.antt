-- Fronts and ends of texts.
use Rattle.std.proofs.Common.{◌≡◌, ℕ, suc, ◌+◌, ◌<◌, ◌≤◌, cond, not, nat_lt, get_or, inl, inr, subst, lit<, length-append, add-one, true, false, ◌&&◌, ◌==◌, nat_eq, List, [], ◌∷◌, ◌++◌, length, take, drop, Option, Some, None, Result, Ok, Err, Bor, refl, sym, ap, ◌∙◌, arith}
use Rattle.std.specs.Cmp.Lexicographic.{pointwise}
use Rattle.std.specs.Str.{is_utf8, IsUtf8, IsAscii}
use Rattle.std.specs.List.{list_all, position_or_len}
use Rattle.std.specs.Char.{is_ascii_digit}
use Rattle.std.proofs.lemmas.Bool.{eqb-true, eq-eqb, cases_lt}
use Rattle.std.proofs.lemmas.List.{take-append-drop}
use Rattle.std.proofs.lemmas.List.Sums.{passes_at_first}
use Rattle.std.proofs.lemmas.Option.{same_Some, none-some}
use Rattle.std.proofs.lemmas.Fmt.{IsAscii-from_digits}
use Rattle.std.proofs.lemmas.Str.Ascii.{IsAscii-cons}
use Rattle.std.proofs.Math.Seq.{drop-cons, take-append_seam, drop-append-add}
use Rattle.hdr_log.proofs.PartsDigits.{own, digits_text}
use Rattle.std.specs.Result.{MatchResult, result_ok}
use Rattle.std.proofs.lemmas.Str.{is_utf8-from_IsUtf8, IsUtf8-from_is_utf8, IsUtf8-append, IsUtf8-from_ascii}
use Rattle.std.specs.Option.{MatchOption, option_map}
use Rattle.hdr_log.specs.Parts.{split_at_byte}
use Rattle.hdr_log.specs.Grammar.{after_front, without_crs, only_if, is_decimal, digits_around}

pub behind_some : (front text : List ℕ) → pointwise nat_eq (take (length front) text) front ≡ true → after_front front text ≡ Some (drop (length front) text)
behind_some [] text h = refl
behind_some (c ∷ front) [] h = grind arith
behind_some (c ∷ front) (x ∷ text) h = grind (arith, behind_some front text)

pub behind_none : (front text : List ℕ) → pointwise nat_eq (take (length front) text) front ≡ false → after_front front text ≡ None
behind_none [] text h = grind arith
behind_none (c ∷ front) [] h = refl
behind_none (c ∷ front) (x ∷ text) h = grind (arith, behind_none front text)

-- a CR at the end does not count
pub without_crs_more : (text : List ℕ) → without_crs (text ++ 13 ∷ []) ≡ without_crs text
without_crs_more [] = refl
without_crs_more (x ∷ text) = grind (arith, without_crs_more text)

not_empty : (text : List ℕ) (b : ℕ) → (length (text ++ b ∷ []) == 0) ≡ false
not_empty [] b = refl
not_empty (x ∷ text) b = grind arith

and_false : (x : ℕ) (text : List ℕ) → cond ((x == 13) && false) [] (x ∷ text) ≡ x ∷ text
and_false x text = grind arith

-- if the last byte is not a CR, all of the bytes stay
pub without_crs_none : (text : List ℕ) (b : ℕ) → (b ≡ 13 → ⊥) → without_crs (text ++ b ∷ []) ≡ text ++ b ∷ []
without_crs_none [] b h = grind arith
without_crs_none (x ∷ text) b h = let some : (length (text ++ b ∷ []) == 0) ≡ false = not_empty text b in
    let e : without_crs (text ++ b ∷ []) ≡ text ++ b ∷ [] = without_crs_none text b h in
    rw (e, some) (and_false x (text ++ b ∷ []))

pub strip_is : (r : Option (Bor (List ℕ))) (front text : List ℕ) → MatchOption r (pointwise nat_eq (take (length front) text) front ≡ false) (λ x. (pointwise nat_eq (take (length front) text) front ≡ true) × (x.now ≡ drop (length front) text) × (length x.now + length front ≡ length text)) → option_map (λ x. x.now) r ≡ after_front front text
strip_is None front text h = sym (behind_none front text h)
strip_is (Some x) front text h = ap Some h.1 ∙ sym (behind_some front text h.0)

not_text : (bytes : List ℕ) → ¬ (IsUtf8 bytes) → None ≡ only_if (is_utf8 bytes) bytes
not_text bytes h = let no : is_utf8 bytes ≡ true → ⊥ = λ e. h (IsUtf8-from_is_utf8 bytes e) in grind (arith, no)

pub text_is : {E : Type 0} (r : Result (Bor (List ℕ)) E) (bytes : List ℕ) → MatchResult r (λ s. (s.now ≡ bytes) × IsUtf8 bytes) (λ e. ¬ (IsUtf8 bytes)) → option_map (λ x. x.now) (result_ok r) ≡ only_if (is_utf8 bytes) bytes
text_is (Ok s) bytes h = let u : is_utf8 bytes ≡ true = is_utf8-from_IsUtf8 bytes h.1 in rw u (ap Some h.0)
text_is (Err e) bytes h = not_text bytes h

first_at : (b : ℕ) (xs ys : List ℕ) → list_all (λ x. not (x == b)) xs ≡ true → position_or_len (λ x. x == b) (xs ++ b ∷ ys) ≡ length xs
first_at b [] ys h = let e : (b == b) ≡ true = eq-eqb b b refl in rw e refl
first_at b (x ∷ xs) ys h = grind (arith, first_at b xs ys)

pub not_lt_test : (a b : ℕ) → b ≤ a → nat_lt a b ≡ false
not_lt_test a b h = grind arith

pub lt_test : (a b : ℕ) → a < b → nat_lt a b ≡ true
lt_test a b h = grind arith

-- the first byte b parts a text
pub parted_front : (b : ℕ) (xs ys : List ℕ) → list_all (λ x. not (x == b)) xs ≡ true → split_at_byte b (xs ++ b ∷ ys) ≡ Some (xs, ys)
unfolding split_at_byte
parted_front b xs ys h =
    let f : position_or_len (λ x. x == b) (xs ++ b ∷ ys) ≡ length xs = first_at b xs ys h in
    let t : nat_lt (length xs) (length (xs ++ b ∷ ys)) ≡ true = lt_test _ _ (omega (arith, length-append xs (b ∷ ys))) in
    rw (f, t, take-append_seam xs (b ∷ ys), drop-append-add xs (b ∷ ys) 1) refl

joined_at : (b i : ℕ) (text : List ℕ) → i < length text → (get_or text i 0 == b) ≡ true → text ≡ take i text ++ b ∷ drop (i + 1) text
joined_at b i text h e = sym (take-append-drop i text) ∙ ap (λ t. take i text ++ t) (drop-cons text i 0 h ∙ ap (λ c. c ∷ drop (suc i) text) (eqb-true _ b e) ∙ ap (λ n. b ∷ drop n text) (sym (add-one i)))

-- what is parted is joined again
pub parted_whole : (b : ℕ) (text : List ℕ) (p : List ℕ × List ℕ) → split_at_byte b text ≡ Some p → text ≡ p.0 ++ b ∷ p.1
unfolding split_at_byte
parted_whole b text p h = elim (cases_lt (position_or_len (λ x. x == b) text) (length text)) [
  | inl l ↦ (let t : nat_lt (position_or_len (λ x. x == b) text) (length text) ≡ true = lt_test _ _ l in
      let j : text ≡ take (position_or_len (λ x. x == b) text) text ++ b ∷ drop (position_or_len (λ x. x == b) text + 1) text = joined_at b _ text l (passes_at_first (λ x. x == b) text 0 l) in
      let q : Some (take (position_or_len (λ x. x == b) text) text, drop (position_or_len (λ x. x == b) text + 1) text) ≡ Some p = rw t at h in
      let e : (take (position_or_len (λ x. x == b) text) text, drop (position_or_len (λ x. x == b) text + 1) text) ≡ p = same_Some _ _ q in
      j ∙ ap (λ (r : List ℕ × List ℕ). r.0 ++ b ∷ r.1) e)
  | inr g ↦ (let t : nat_lt (position_or_len (λ x. x == b) text) (length text) ≡ false = not_lt_test _ _ g in
      absurd (none-some p (rw t at h)))
]

pub digits_ascii : (text : List ℕ) → list_all is_ascii_digit text ≡ true → IsAscii text
digits_ascii text h = IsAscii-from_digits text (own.to text h)

around_text : (text : List ℕ) (o : Option (List ℕ × List ℕ)) → split_at_byte 46 text ≡ o → digits_around o text ≡ true → is_utf8 text ≡ true
around_text text None e h = is_utf8-from_IsUtf8 text (digits_text text h)
around_text text (Some p) e h =
    let whole : list_all is_ascii_digit p.0 ≡ true = grind arith in
    let fraction : list_all is_ascii_digit p.1 ≡ true = grind arith in
    let j : text ≡ p.0 ++ 46 ∷ p.1 = parted_whole 46 text p e in
    let u : IsUtf8 (p.0 ++ 46 ∷ p.1) = IsUtf8-append p.0 (46 ∷ p.1) (IsUtf8-from_ascii p.0 (digits_ascii p.0 whole)) (IsUtf8-from_ascii (46 ∷ p.1) (IsAscii-cons 46 p.1 (lit< tt) (digits_ascii p.1 fraction))) in
    is_utf8-from_IsUtf8 text (subst IsUtf8 (sym j) u)

-- a decimal is a text
pub decimal_text : (text : List ℕ) → is_decimal text ≡ true → is_utf8 text ≡ true
decimal_text text h = around_text text (split_at_byte 46 text) refl h
