-- An interval's line is read again.
use Rattle.std.proofs.Common.{◌≡◌, ℕ, ◌*◌, ◌/◌, ◌%◌, ◌^◌, ◌<◌, ◌==◌, true, false, not, ◌&&◌, List, [], ◌∷◌, ◌++◌, length, Option, Some, None, codes, refl, ap, ◌∙◌, arith, append_assoc}
use Rattle.std.specs.Char.{is_ascii_digit}
use Rattle.std.specs.List.{list_all}
use Rattle.std.specs.Fmt.{decimal}
use Rattle.std.specs.Str.{is_utf8}
use Rattle.std.proofs.lemmas.List.Folds.{list_all-append}
use Rattle.std.proofs.lemmas.Fmt.{digits_decimal, decimal_nonempty}
use Rattle.hdr_log.specs.Parts.{split_at_byte}
use Rattle.hdr_log.specs.Grammar.{after_front, is_tag, is_tag_byte, tag_of, is_decimal, without_crs, time_before, interval_of}
use Rattle.hdr_log.specs.Texts.{three_digits, thousandths_text, tag_front, interval_line, AreTags}
use Rattle.hdr_log.proofs.PartsDigits.{own}
use Rattle.hdr_log.proofs.PartsFronts.{parted_front}
use Rattle.hdr_log.proofs.TextsTimes.{not_among, three_digits_all, time_of_thousandths}

pub after_front-whole : (front text : List ℕ) → after_front front (front ++ text) ≡ Some text
after_front-whole [] text = refl
after_front-whole (c ∷ front) text = grind (arith, after_front-whole front text)

pub after_front-other : (c x : ℕ) (front text : List ℕ) → (c == x) ≡ false → after_front (c ∷ front) (x ∷ text) ≡ None
after_front-other c x front text h = rw h refl

digits_begin : (xs ys : List ℕ) → 0 < length xs → list_all is_ascii_digit xs ≡ true → (x : ℕ) × (more : List ℕ) × (xs ++ ys ≡ x ∷ more) × (is_ascii_digit x ≡ true)
digits_begin [] ys n h = absurd (omega arith)
digits_begin (x ∷ xs) ys n h = (x, xs ++ ys, refl, grind arith)

-- a printed number starts with a digit
pub begins : (t : ℕ) → t / 1000 < 2 ^ 64 → (x : ℕ) × (more : List ℕ) × (thousandths_text t ≡ x ∷ more) × (is_ascii_digit x ≡ true)
unfolding thousandths_text
begins t h = digits_begin (decimal (t / 1000)) (46 ∷ three_digits (t % 1000)) (decimal_nonempty (t / 1000) h) (digits_decimal own (t / 1000) h)

pub no_byte : (b t : ℕ) → is_ascii_digit b ≡ false → (46 == b) ≡ false → t / 1000 < 2 ^ 64 → list_all (λ x. not (x == b)) (thousandths_text t) ≡ true
unfolding thousandths_text
no_byte b t n e h =
    let whole : list_all (λ x. not (x == b)) (decimal (t / 1000)) ≡ true = not_among b (decimal (t / 1000)) n (digits_decimal own (t / 1000) h) in
    let rest : list_all (λ x. not (x == b)) (three_digits (t % 1000)) ≡ true = not_among b (three_digits (t % 1000)) n (three_digits_all (t % 1000) (omega arith)) in
    list_all-append (λ x. not (x == b)) (decimal (t / 1000)) (46 ∷ three_digits (t % 1000)) ∙ (rw (whole, e, rest) refl)

pub number_parted : (t : ℕ) (rest : List ℕ) → t / 1000 < 2 ^ 64 → split_at_byte 44 (thousandths_text t ++ 44 ∷ rest) ≡ Some (thousandths_text t, rest)
number_parted t rest h = parted_front 44 (thousandths_text t) rest (no_byte 44 t refl refl h)

some_digits : (n : ℕ) → not (n == 0 && false) ≡ true
some_digits n = grind arith

pub decimal_printed : (t : ℕ) → t / 1000 < 2 ^ 64 → is_decimal (thousandths_text t) ≡ true
unfolding thousandths_text
decimal_printed t h =
    let p : split_at_byte 46 (decimal (t / 1000) ++ 46 ∷ three_digits (t % 1000)) ≡ Some (decimal (t / 1000), three_digits (t % 1000)) = parted_front 46 (decimal (t / 1000)) (three_digits (t % 1000)) (not_among 46 (decimal (t / 1000)) refl (digits_decimal own (t / 1000) h)) in
    let a : list_all is_ascii_digit (decimal (t / 1000)) ≡ true = digits_decimal own (t / 1000) h in
    let b : list_all is_ascii_digit (three_digits (t % 1000)) ≡ true = three_digits_all (t % 1000) (omega arith) in
    rw p (rw (a, b) (some_digits (length (decimal (t / 1000)))))

tag_no_comma : (tag : List ℕ) → list_all is_tag_byte tag ≡ true → list_all (λ x. not (x == 44)) tag ≡ true
tag_no_comma [] h = refl
tag_no_comma (x ∷ tag) h = grind (arith, tag_no_comma tag)

tag_bytes : (tag : List ℕ) → is_tag tag ≡ true → list_all is_tag_byte tag ≡ true
tag_bytes tag h = grind arith

not_t : (x : ℕ) → is_ascii_digit x ≡ true → (84 == x) ≡ false
not_t x h = grind arith

pub not_hash : (x : ℕ) → is_ascii_digit x ≡ true → (35 == x) ≡ false
not_hash x h = grind arith

regroup : (front tag rest : List ℕ) → (front ++ tag ++ 44 ∷ []) ++ rest ≡ front ++ (tag ++ 44 ∷ rest)
regroup front tag rest = simp append_assoc

some_tag : (tag rest after_tag line : List ℕ) → split_at_byte 44 rest ≡ Some (tag, after_tag) → is_tag tag ≡ true → tag_of (Some rest) line ≡ Some (Some tag, after_tag)
some_tag tag rest after_tag line p ok = rw (p, ok) refl

-- the tag is read, and what follows it
pub tag_read : (tag : Option (List ℕ)) (t : ℕ) (rest : List ℕ) → AreTags tag → t / 1000 < 2 ^ 64 → tag_of (after_front (codes "Tag=") (tag_front tag ++ (thousandths_text t ++ rest))) (tag_front tag ++ (thousandths_text t ++ rest)) ≡ Some (tag, thousandths_text t ++ rest)
tag_read None t rest ok h =
    let b : (x : ℕ) × (more : List ℕ) × (thousandths_text t ≡ x ∷ more) × (is_ascii_digit x ≡ true) = begins t h in
    let o : after_front (codes "Tag=") ((b.0 ∷ b.1) ++ rest) ≡ None = after_front-other 84 b.0 (codes "ag=") (b.1 ++ rest) (not_t b.0 b.3) in
    let e : thousandths_text t ≡ b.0 ∷ b.1 = b.2 in
    let n : after_front (codes "Tag=") (thousandths_text t ++ rest) ≡ None = ap (λ x. after_front (codes "Tag=") (x ++ rest)) e ∙ o in
    ap (λ o. tag_of o (thousandths_text t ++ rest)) n
tag_read (Some tag) t rest ok h =
    let g : (codes "Tag=" ++ tag ++ 44 ∷ []) ++ (thousandths_text t ++ rest) ≡ codes "Tag=" ++ (tag ++ 44 ∷ (thousandths_text t ++ rest)) = regroup (codes "Tag=") tag (thousandths_text t ++ rest) in
    let f : after_front (codes "Tag=") ((codes "Tag=" ++ tag ++ 44 ∷ []) ++ (thousandths_text t ++ rest)) ≡ Some (tag ++ 44 ∷ (thousandths_text t ++ rest)) = ap (after_front (codes "Tag=")) g ∙ after_front-whole (codes "Tag=") (tag ++ 44 ∷ (thousandths_text t ++ rest)) in
    let p : split_at_byte 44 (tag ++ 44 ∷ (thousandths_text t ++ rest)) ≡ Some (tag, thousandths_text t ++ rest) = parted_front 44 tag (thousandths_text t ++ rest) (tag_no_comma tag (tag_bytes tag ok)) in
    ap (λ o. tag_of o ((codes "Tag=" ++ tag ++ 44 ∷ []) ++ (thousandths_text t ++ rest))) f ∙ some_tag tag (tag ++ 44 ∷ (thousandths_text t ++ rest)) (thousandths_text t ++ rest) ((codes "Tag=" ++ tag ++ 44 ∷ []) ++ (thousandths_text t ++ rest)) p ok

pub time_read : (b t : ℕ) (rest : List ℕ) → is_ascii_digit b ≡ false → (46 == b) ≡ false → t / 1000 < 2 ^ 64 → time_before b (thousandths_text t ++ b ∷ rest) ≡ Some (t * 1_000_000, rest)
unfolding time_before
time_read b t rest n e h =
    let p : split_at_byte b (thousandths_text t ++ b ∷ rest) ≡ Some (thousandths_text t, rest) = parted_front b (thousandths_text t) rest (no_byte b t n e h) in
    rw (p, time_of_thousandths t h) refl

-- what the line says
pub interval_read : (tag : Option (List ℕ)) (start duration max : ℕ) (field : List ℕ) → AreTags tag → start / 1000 < 2 ^ 64 → duration / 1000 < 2 ^ 64 → max / 1000 < 2 ^ 64 → is_utf8 field ≡ true → without_crs field ≡ field →
    interval_of (interval_line tag start duration max field) ≡ Some (record { tag = tag; start = start * 1_000_000; duration = duration * 1_000_000; max = thousandths_text max; field = field })
unfolding interval_of
interval_read tag start duration max field ok hs hd hm u w =
    let t : tag_of (after_front (codes "Tag=") (interval_line tag start duration max field)) (interval_line tag start duration max field) ≡ Some (tag, thousandths_text start ++ 44 ∷ (thousandths_text duration ++ 44 ∷ (thousandths_text max ++ 44 ∷ field))) = tag_read tag start (44 ∷ (thousandths_text duration ++ 44 ∷ (thousandths_text max ++ 44 ∷ field))) ok hs in
    let p1 : time_before 44 (thousandths_text start ++ 44 ∷ (thousandths_text duration ++ 44 ∷ (thousandths_text max ++ 44 ∷ field))) ≡ Some (start * 1_000_000, thousandths_text duration ++ 44 ∷ (thousandths_text max ++ 44 ∷ field)) = time_read 44 start _ refl refl hs in
    let p2 : time_before 44 (thousandths_text duration ++ 44 ∷ (thousandths_text max ++ 44 ∷ field)) ≡ Some (duration * 1_000_000, thousandths_text max ++ 44 ∷ field) = time_read 44 duration _ refl refl hd in
    let p3 : split_at_byte 44 (thousandths_text max ++ 44 ∷ field) ≡ Some (thousandths_text max, field) = number_parted max field hm in
    let m : is_decimal (thousandths_text max) ≡ true = decimal_printed max hm in
    rw (t, p1, p2, p3) (rw (m, w, u) refl)
