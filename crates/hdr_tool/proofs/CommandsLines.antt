-- Value lines: a number of few digits, the fields of the line, and its call.
use Rattle.hdr_tool.proofs.Common.{◌≡◌, ℕ, ◌-◌, ◌^◌, ◌<◌, Bool, true, false, ◌&&◌, nat_lt, List, [], ◌∷◌, Option, Some, None, refl, zero, suc, ◌+◌, ◌*◌, ◌≤◌, ◌==◌, ◌++◌, length, take, drop, get_or, unwrap_or, sym, ap, ◌∙◌, arith, lit<, ap₂, length-append, lt-ltb, ne_eqb, Call, Correct, parts, first_number, Apply, count_of, record_of, correct_of, command_of_fields, command_of, BeginsWith, AreNumbers, FirstLine, list_all, onto_first, is_ascii_digit, digit_value, pow-suc, pow-le-pow_right, append-nil}
use Rattle.std.specs.Str.Parse.{digits_value}
use Rattle.std.proofs.lemmas.List.Folds.{list_all_more}
use Rattle.std.proofs.lemmas.Int.Digits.{digits_value_more}
use Rattle.std.proofs.Common.{length-take}
use Rattle.hdr_log.specs.Parts.{number_of}

not_end : (b : ℕ) → is_ascii_digit b ≡ true → (b == 10) ≡ false
not_end b h = grind arith

not_space : (b : ℕ) → is_ascii_digit b ≡ true → (b == 32) ≡ false
not_space b h = grind arith

pub digit_small : (b : ℕ) → is_ascii_digit b ≡ true → digit_value b < 10
digit_small b h = grind arith

pub digit_less : (b : ℕ) → is_ascii_digit b ≡ true → digit_value b ≡ b - 48
digit_less b h = grind arith

both : (a b : Bool) → (a && b) ≡ true → (a ≡ true) × (b ≡ true)
both true b h = (refl, h)
both false b h = absurd (let e : false ≡ true = h in cc)

-- digits, and then a text whose first part is known
digits_then : (b : ℕ) (differs : (x : ℕ) → is_ascii_digit x ≡ true → (x == b) ≡ false) (xs ys p : List ℕ) (ps : List (List ℕ)) → list_all is_ascii_digit xs ≡ true → parts b ys ≡ p ∷ ps → parts b (xs ++ ys) ≡ (xs ++ p) ∷ ps
digits_then b differs [] ys p ps d e = e
digits_then b differs (x ∷ xs) ys p ps d e =
    let h = both (is_ascii_digit x) (list_all is_ascii_digit xs) d in
    let rest : parts b (xs ++ ys) ≡ (xs ++ p) ∷ ps = digits_then b differs xs ys p ps h.1 e in
    rw (differs x h.0, rest) refl

cut : (at : ℕ) (text : List ℕ) → at < length text → text ≡ take at text ++ get_or text at 0 ∷ drop (at + 1) text
cut at [] l = absurd (omega (arith, l))
cut zero (x ∷ text) l = refl
cut (suc at) (x ∷ text) l =
    let n : suc at + 1 ≡ suc (at + 1) = omega arith in
    let rest : text ≡ take at text ++ get_or text at 0 ∷ drop (at + 1) text = cut at text (omega (arith, l)) in
    rw n (ap (λ t. x ∷ t) rest)

spelled : (xs : List ℕ) (value : ℕ) → 0 < length xs → list_all is_ascii_digit xs ≡ true → value ≡ digits_value 10 xs → value < 2 ^ 64 → number_of xs ≡ Some value
unfolding number_of
spelled xs value n d s f =
    let fits : nat_lt value (2 ^ 64) ≡ true = lt-ltb value (2 ^ 64) f in rw (ne_eqb (length xs) 0 (λ e. absurd (omega (arith, e, n))), d, ← s, fits) refl

-- the first bytes of a text are digits of a number of 64 bits
pub record AreDigits (text : List ℕ) (at value : ℕ) : Type 0 where
  pub digits : list_all is_ascii_digit (take at text) ≡ true
  pub number : value ≡ digits_value 10 (take at text)
  pub fits : value < 2 ^ 64

pub one_more_digit : (text : List ℕ) (at value : ℕ) → AreDigits text at value → at < length text → is_ascii_digit (get_or text at 0) ≡ true → value * 10 + digit_value (get_or text at 0) < 2 ^ 64
    → AreDigits text (at + 1) (value * 10 + digit_value (get_or text at 0))
one_more_digit text at value r l d h = record {
  digits = list_all_more is_ascii_digit text at 0 l ∙ ap (λ b. b && is_ascii_digit (get_or text at 0)) r.digits ∙ d;
  number = ap (λ n. n * 10 + digit_value (get_or text at 0)) r.number ∙ sym (digits_value_more 10 text at l);
  fits = h;
}

-- digits that were read, and what follows them
pub begins : (text rest : List ℕ) (value byte at : ℕ) → 0 < at → at < length text → AreDigits text at value → byte ≡ get_or text at 0 → rest ≡ drop (at + 1) text → BeginsWith text value byte rest
begins text rest value byte at p l r e f = record {
  digits = take at text;
  are_digits = r.digits;
  number = spelled (take at text) value (omega (arith, length-take at text)) r.digits r.number r.fits;
  text_is = cut at text l ∙ ap₂ (λ b t. take at text ++ b ∷ t) (sym e) (sym f);
}

-- a text's first line is these numbers
abbrev pub HasNumbers : List ℕ → ℕ → Option ℕ → List ℕ → Type 0
HasNumbers text n m after = FirstLine text (λ line. AreNumbers (parts 32 line) n m) after

-- a line of one number, and of two
pub one : (text after : List ℕ) (n : ℕ) → BeginsWith text n 10 after → HasNumbers text n None after
one text after n b = record {
  line = b.digits ++ [];
  lines = ap (parts 10) b.text_is ∙ digits_then 10 not_end b.digits (10 ∷ after) [] (parts 10 after) b.are_digits refl;
  shorter = omega (arith, ap length b.text_is ∙ length-append b.digits (10 ∷ after));
  fits = rw (digits_then 32 not_space b.digits [] [] [] b.are_digits refl) (rw (append-nil, b.number) refl);
}

pub two : (text rest after : List ℕ) (n m : ℕ) → BeginsWith text n 32 rest → HasNumbers rest m None after → HasNumbers text n (Some m) after
two text rest after n m b h = record {
  line = b.digits ++ 32 ∷ h.line;
  lines = ap (parts 10) b.text_is ∙ digits_then 10 not_end b.digits (32 ∷ rest) (32 ∷ h.line) (parts 10 after) b.are_digits (ap (onto_first 32) h.lines);
  shorter = omega (arith, ap length b.text_is ∙ length-append b.digits (32 ∷ rest), h.shorter);
  fits = (parts 32 h.line, rw (digits_then 32 not_space b.digits (32 ∷ h.line) [] (parts 32 h.line) b.are_digits refl) (rw (append-nil, b.number) refl), h.fits);
}

-- the call of a name and of numbers
one_count : (fields : List (List ℕ)) (m : ℕ) → first_number fields ≡ Some (m, []) → count_of fields ≡ Some m
one_count [] m e = absurd (let f : None ≡ Some (m, []) = e in cc)
one_count (f ∷ fields) m e = rw e refl

pub record_asked : (call : ℕ → ℕ → Call ℕ) (fields : List (List ℕ)) (n : ℕ) (m : Option ℕ) → AreNumbers fields n m → record_of call fields ≡ Some (Apply (call n (unwrap_or m 1)))
record_asked call fields n None a = rw a refl
record_asked call fields n (Some m) (rest, a, b) = rw (a, one_count rest m b) refl

pub correct_asked : (fields : List (List ℕ)) (n m : ℕ) → AreNumbers fields n (Some m) → correct_of fields ≡ Some (Apply (Correct n 1 m))
correct_asked fields n m (rest, a, b) = rw (a, b) refl

pub front : (text rest : List ℕ) (b : ℕ) → 2 ≤ length text → get_or text 0 0 ≡ b → get_or text 1 0 ≡ 32 → rest ≡ drop 2 text → text ≡ b ∷ 32 ∷ rest
front [] rest b l e f r = absurd (omega (arith, l))
front (x ∷ []) rest b l e f r = absurd (omega (arith, l))
front (x ∷ y ∷ text) rest b l e f r = let p : x ≡ b = e in let q : y ≡ 32 = f in rw (p, q, r) refl

-- the line of a name of one byte, and of numbers
pub value_line : (text rest after : List ℕ) (b n : ℕ) (m : Option ℕ) (call : Call ℕ) → (b == 10) ≡ false → (b == 32) ≡ false → text ≡ b ∷ 32 ∷ rest → HasNumbers rest n m after
    → ((fields : List (List ℕ)) → AreNumbers fields n m → command_of_fields ((b ∷ []) ∷ fields) ≡ Some (Apply call)) → FirstLine text (λ line. command_of line ≡ Some (Apply call)) after
value_line text rest after b n m call ten space t h asked = record {
  line = b ∷ 32 ∷ h.line;
  lines = rw (t, ten, h.lines) refl;
  shorter = omega (arith, ap length t, h.shorter);
  fits = rw space (asked (parts 32 h.line) h.fits);
}

-- one more digit of few
pub few_more : (at value digit : ℕ) → at < 19 → value < 10 ^ at → digit < 10 → (value * 10 + digit < 10 ^ (at + 1)) × (value * 10 + digit < 2 ^ 64)
few_more at value digit l v d =
    let next : at + 1 ≡ suc at = omega arith in
    let more : 10 ^ (at + 1) ≡ 10 ^ at * 10 = ap (λ n. 10 ^ n) next ∙ pow-suc 10 at in
    let within : at + 1 ≤ 19 = omega arith in
    let most : 10 ^ (at + 1) ≤ 10 ^ 19 = pow-le-pow_right (lit< tt) within in
    (omega (arith, more), omega (arith, more, most))
