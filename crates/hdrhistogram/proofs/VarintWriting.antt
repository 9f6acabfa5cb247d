-- Bytes that are written at an index, and the varint of a number byte by byte.
use Rattle.std.proofs.Common.{◌≡◌, ℕ, zero, suc, ◌+◌, ◌-◌, ◌*◌, ◌/◌, ◌%◌, ◌^◌, ◌<◌, ◌≤◌, Bool, true, false, cond, List, [], ◌∷◌, ◌++◌, length, take, drop, set, refl, sym, ap, ◌∙◌, subst, arith, append_assoc, append-nil, length-append, length-take, length-take-le, length-drop, drop_at, drop_of_length-le, take-append-drop, pow-add, ltb, Option}
use Rattle.std.specs.Int.{bytes_low_first}
use Rattle.std.proofs.lemmas.Bool.{le-ltb, lt-ltb}
use Rattle.std.proofs.Math.Nat.{mul-le-mul_left}
use Rattle.std.proofs.Math.Seq.{take-append_seam}
use Rattle.std.proofs.lemmas.List.{take_more_set, drop-set-lt, drop-drop, take_rest}
use lib.Seq.{take-add}
use Rattle.std.specs.Io.KnownBytes.{Appends}
use Rattle.std.proofs.KnownBytes.{Appends-trans}
use borrow.Rule.Slice.PartMut.{put_mid, post_of}
use Rattle.hdrhistogram.proofs.VarintSpellings.{spelling_from, spelling}

-- ---- a text that is written at an index

-- what comes after it
pub put_behind : (out part text : List ℕ) (at count : ℕ) → at ≤ length out → count ≡ length text
    → part ≡ text ++ drop count (drop at out)
    → drop (at + count) (put_mid at (length out - at) out part) ≡ drop (at + count) out
put_behind out part text at count within same e =
    let k = length out - at in
    let none : post_of at k out ≡ [] = drop_of_length-le (drop at out) {i = k} (omega (arith, length-drop at out)) in
    sym (drop-drop count at (put_mid at k out part))
    ∙ ap (drop count) (drop_at (take at out) (part ++ post_of at k out) at (length-take-le at out within) ∙ ap (λ l. part ++ l) none ∙ append-nil part ∙ e)
    ∙ drop_at text (drop count (drop at out)) count (sym same)
    ∙ drop-drop count at out

-- what lies before its end
pub put_front : (out part text : List ℕ) (at count : ℕ) → at ≤ length out → count ≡ length text
    → part ≡ text ++ drop count (drop at out)
    → take (at + count) (put_mid at (length out - at) out part) ≡ take at out ++ text
put_front out part text at count within same e =
    let after = post_of at (length out - at) out in
    let behind = drop count (drop at out) in
    ap (λ l. take (at + count) (take at out ++ (l ++ after))) e
    ∙ ap (λ l. take (at + count) (take at out ++ l)) (append_assoc text behind after) ∙ ap (take (at + count)) (sym (append_assoc (take at out) text (behind ++ after)))
    ∙ ap (λ n. take n ((take at out ++ text) ++ (behind ++ after))) (omega (arith, length-append (take at out) text, length-take-le at out within))
    ∙ take-append_seam (take at out ++ text) (behind ++ after)

-- lists that agree from an index on agree from each later one on
pub drop_past : (xs ys : List ℕ) (a b : ℕ) → a ≤ b → drop a xs ≡ drop a ys → drop b xs ≡ drop b ys
drop_past xs ys a b h e =
    let sum : a + (b - a) ≡ b = omega arith in
    ap (λ n. drop n xs) (sym sum) ∙ sym (drop-drop (b - a) a xs) ∙ ap (drop (b - a)) e ∙ drop-drop (b - a) a ys ∙ ap (λ n. drop n ys) sum

-- ---- a number, byte by byte

length_from : (left n : ℕ) → 0 < length (spelling_from left n)
unfolding spelling_from
length_from zero n = omega arith
length_from (suc left) n = nonempty (ltb n 128) n (n % 128 + 128) (spelling_from left (n / 128))
  where
    nonempty : (b : Bool) (n m : ℕ) (more : List ℕ) → 0 < length (cond b (n ∷ []) (m ∷ more))
    nonempty true n m more = omega arith
    nonempty false n m more = omega arith

ends : (left n : ℕ) → 0 < left → n < 128 → spelling_from left n ≡ n ∷ []
unfolding spelling_from
ends zero n h k = absurd (omega arith)
ends (suc left) n h k = rw (lt-ltb n 128 k) refl

goes_on : (left n : ℕ) → 128 ≤ n → spelling_from (suc left) n ≡ (n % 128 + 128) ∷ spelling_from left (n / 128)
unfolding spelling_from
goes_on left n h = rw (le-ltb n 128 h) refl

-- a list with one element written, in its parts
set_parts : (out : List ℕ) (place y : ℕ) → place < length out → set out place y ≡ (take place out ++ y ∷ []) ++ drop (place + 1) out
set_parts out place y h =
    sym (take-append-drop (place + 1) (set out place y))
    ∙ ap (λ l. l ++ drop (place + 1) (set out place y)) (take_more_set out place y h)
    ∙ ap (λ l. (take place out ++ y ∷ []) ++ l) (drop-set-lt (place + 1) out place y (omega arith))

drop_more : (out old : List ℕ) (place : ℕ) → drop place out ≡ drop place old → drop (place + 1) out ≡ drop (place + 1) old
drop_more out old place e = sym (drop-drop 1 place out) ∙ ap (drop 1) e ∙ drop-drop 1 place old

pub power_next : (place : ℕ) → 2 ^ (7 * (place + 1)) ≡ 2 ^ (7 * place) * 128
power_next place = let e : 7 * (place + 1) ≡ 7 * place + 7 = omega arith in ap (λ k. 2 ^ k) e ∙ pow-add 2 (7 * place) 7

scaled : (rest weight number next : ℕ) → rest * weight ≤ number → next ≡ weight * 128 → rest / 128 * next ≤ number
scaled rest weight number next h e =
    let fits : rest / 128 * 128 ≤ rest = omega arith in
    omega (arith, mul-le-mul_left weight fits, ap (λ k. rest / 128 * k) e)

-- the groups below `place` are stored in out, and rest is the rest of the number
pub record IsWrittenTo (out old : List ℕ) (place rest number : ℕ) : Type 0 where
  pub text : take place out ++ spelling_from (8 - place) rest ≡ spelling number
  pub behind : drop place out ≡ drop place old
  pub left : rest * 2 ^ (7 * place) ≤ number

pub written_start : (old : List ℕ) (number : ℕ) → IsWrittenTo old old 0 number number
unfolding spelling
written_start old number = record { text = refl; behind = refl; left = omega arith }

pub written_room : (out old : List ℕ) (place rest number : ℕ) → IsWrittenTo out old place rest number → length (spelling number) ≤ length old → length out ≡ length old → place ≤ 8 → place < length out
written_room out old place rest number w room same h =
    omega (arith, simp length-append at (ap length w.text), length-take place out, length_from (8 - place) rest)

-- the last byte is written
closed : (out old : List ℕ) (place rest number : ℕ) → IsWrittenTo out old place rest number → spelling_from (8 - place) rest ≡ rest ∷ [] → place < length out
    → (set out place rest ≡ spelling number ++ drop (place + 1) old) × (place + 1 ≡ length (spelling number))
closed out old place rest number w last room =
    let whole : take place out ++ rest ∷ [] ≡ spelling number = ap (λ l. take place out ++ l) (sym last) ∙ w.text in (
      set_parts out place rest room ∙ ap (λ l. l ++ drop (place + 1) out) whole ∙ ap (λ l. spelling number ++ l) (drop_more out old place w.behind),
      omega (arith, simp length-append at (ap length whole), length-take place out),
    )

pub written_end : (out old : List ℕ) (place rest number : ℕ) → IsWrittenTo out old place rest number → place < 8 → rest < 128 → place < length out
    → (set out place rest ≡ spelling number ++ drop (place + 1) old) × (place + 1 ≡ length (spelling number))
written_end out old place rest number w h k room = closed out old place rest number w (ends (8 - place) rest (omega arith) k) room

pub written_next : (out old : List ℕ) (place rest number : ℕ) → IsWrittenTo out old place rest number → place < 8 → 128 ≤ rest → place < length out
    → IsWrittenTo (set out place (rest % 128 + 128)) old (place + 1) (rest / 128) number
written_next out old place rest number w h k room =
    let more : spelling_from (8 - place) rest ≡ (rest % 128 + 128) ∷ spelling_from (8 - (place + 1)) (rest / 128)
    = ap (λ l. spelling_from l rest) (omega arith) ∙ goes_on (8 - (place + 1)) rest k in
    record {
      text = ap (λ l. l ++ spelling_from (8 - (place + 1)) (rest / 128)) (take_more_set out place (rest % 128 + 128) room)
          ∙ append_assoc (take place out) _ _ ∙ ap (λ l. take place out ++ l) (sym more) ∙ w.text;
      behind = drop-set-lt (place + 1) out place (rest % 128 + 128) (omega arith) ∙ drop_more out old place w.behind;
      left = scaled rest (2 ^ (7 * place)) number _ w.left (power_next place);
    }

pub written_last : (out old : List ℕ) (place rest number : ℕ) → IsWrittenTo out old place rest number → place ≡ 8 → 8 < length out
    → (set out 8 rest ≡ spelling number ++ drop 9 old) × (9 ≡ length (spelling number))
unfolding spelling_from
written_last out old place rest number w full room = closed out old 8 rest number (subst (λ p. IsWrittenTo out old p rest number) full w) refl room

-- ---- a text, piece by piece

part_is : (text : List ℕ) (a n : ℕ) → take a text ++ take n (take (length text - a) (drop a text)) ≡ take (a + n) text
part_is text a n = ap (λ l. take a text ++ take n l) (take_rest text a) ∙ sym (take-add a n text)

-- a writer that took the text up to an index takes more of it
pub Appends-more : (x y z : Option (List ℕ)) (text : List ℕ) (a n : ℕ) → Appends x y (take a text)
    → Appends y z (take n (take (length text - a) (drop a text))) → Appends x z (take (a + n) text)
Appends-more x y z text a n p q = subst (Appends x z) (part_is text a n) (Appends-trans x y z _ _ p q)

-- the bytes of a number of more than 7 and at most 14 bits, lowest first, are its varint
pub two_bytes : (n w : ℕ) → 128 ≤ n → n < 16384 → w ≡ n % 128 + 128 + n / 128 * 256 → bytes_low_first 0 2 w ≡ spelling n
unfolding spelling
two_bytes n w from to is =
    let low : w % 256 ≡ n % 128 + 128 = omega arith in
    let high : w / 256 ^ 1 % 256 ≡ n / 128 = omega arith in
    ap (λ x. x ∷ (w / 256 ^ 1 % 256) ∷ []) low ∙ ap (λ x. (n % 128 + 128) ∷ x ∷ []) high
    ∙ sym (goes_on 7 n from ∙ ap (λ l. (n % 128 + 128) ∷ l) (ends 7 (n / 128) (omega arith) (omega arith)))

pub two_long : (n : ℕ) → 128 ≤ n → n < 16384 → 2 ≡ length (spelling n)
two_long n from to = ap (λ l. length l) (two_bytes n (n % 128 + 128 + n / 128 * 256) from to refl)
