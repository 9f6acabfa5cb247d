-- All that is written is read again.
use Rattle.std.proofs.Common.{◌≡◌, ℕ, ◌*◌, ◌/◌, ◌^◌, ◌<◌, ◌==◌, Bool, true, false, not, cond, ◌&&◌, List, [], ◌∷◌, ◌++◌, Option, Some, None, codes, refl, sym, ap, ap₂, ◌∙◌, arith, append_assoc}
use Rattle.std.specs.Prelude.{map}
use Rattle.std.specs.List.{flat_map, list_all, AllByRecursion, onto_first}
use Rattle.std.proofs.lemmas.Option.{none-some}
use Rattle.std.proofs.lemmas.List.Folds.{list_all-append}
use Rattle.hdr_log.specs.Parts.{parts}
use Rattle.hdr_log.specs.Grammar.{Entry, Start, Base, header_of, entry_of, reading, is_tag, is_tag_byte}
use Rattle.hdr_log.specs.Texts.{thousandths_text, with_line_feed, lines_text, comment_line, start_line, base_line, divisor_line, tag_front, interval_line, AreTags}
use Rattle.hdr_log.specs.Pieces.{and_entry, Piece, Comment, StartsAt, BasedAt, Divided, Measured, lines_of, piece_text, entry_of_header, entries_of_headers, entries_of_piece, IsPiece, text_of, is_read}
use Rattle.hdr_log.proofs.GrammarLines.{no_byte}
use Rattle.hdr_log.proofs.GrammarLogs.{IsLine, entries_of, lines_read, header_read, start_entry, interval_entry, comment_entry, comment_skipped}

abbrev no_lf : List ℕ → Bool
no_lf line = list_all (λ b. not (b == 10)) line

entry_line : (line : List ℕ) (e : Entry) → no_lf line ≡ true → entry_of line ≡ Some e → IsLine line
entry_line line e w h = record { whole = w; known = λ n. absurd (none-some e (sym n ∙ h)) }

comment_is_line : (part : List ℕ) → no_lf part ≡ true → IsLine (35 ∷ part)
comment_is_line part w = record { whole = w; known = λ n. comment_skipped part }

abbrev Parted : List (List ℕ) → Type 0
Parted ps = AllByRecursion (λ part. no_lf part ≡ true) ps

onto : (x : ℕ) (ps : List (List ℕ)) → (x == 10) ≡ false → Parted ps → Parted (onto_first x ps)
onto x [] n h = ((rw n refl), tt)
onto x (part ∷ ps) n h = ((rw n h.0), h.1)

either_way : (b : Bool) (x : ℕ) (ps : List (List ℕ)) → (x == 10) ≡ b → Parted ps → Parted (cond b ([] ∷ ps) (onto_first x ps))
either_way true x ps e h = (refl, h)
either_way false x ps e h = onto x ps e h

parts_whole : (text : List ℕ) → Parted (parts 10 text)
parts_whole [] = (refl, tt)
parts_whole (x ∷ text) = either_way (x == 10) x (parts 10 text) refl (parts_whole text)

comment_lines_are : (ps : List (List ℕ)) → Parted ps → AllByRecursion IsLine (map comment_line ps)
comment_lines_are [] h = tt
comment_lines_are (part ∷ ps) h = (comment_is_line part h.0, comment_lines_are ps h.1)

comment_entries : (ps : List (List ℕ)) → entries_of (map comment_line ps) ≡ entries_of_headers ps
comment_entries [] = refl
comment_entries (part ∷ ps) = ap₂ and_entry (comment_entry part) (comment_entries ps)

not_start : (t : ℕ) → header_of (codes "#[StartTime: ") (base_line t) ≡ None
unfolding header_of
not_start t = refl

base_entry : (t : ℕ) → t / 1000 < 2 ^ 64 → entry_of (base_line t) ≡ Some (Base (t * 1_000_000))
unfolding entry_of
base_entry t h = let n : header_of (codes "#[StartTime: ") (base_line t) ≡ None = not_start t in
    let r : header_of (codes "#[BaseTime: ") (base_line t) ≡ Some (t * 1_000_000) = header_read (codes "#[BaseTime: ") t (codes "(seconds since epoch)]") h in
    rw (n, r) refl

header_whole : (name : List ℕ) (t : ℕ) → no_lf name ≡ true → t / 1000 < 2 ^ 64 → no_lf (name ++ (thousandths_text t ++ codes " (seconds since epoch)]")) ≡ true
header_whole name t n h = let k : no_lf (thousandths_text t) ≡ true = no_byte 10 t refl refl h in
    list_all-append (λ b. not (b == 10)) name (thousandths_text t ++ codes " (seconds since epoch)]") ∙ ap₂ ◌&&◌ n (list_all-append (λ b. not (b == 10)) (thousandths_text t) (codes " (seconds since epoch)]") ∙ ap₂ ◌&&◌ k refl)

tag_no_lf : (tag : List ℕ) → list_all is_tag_byte tag ≡ true → no_lf tag ≡ true
tag_no_lf [] h = refl
tag_no_lf (x ∷ tag) h = grind (arith, tag_no_lf tag)

tag_bytes : (tag : List ℕ) → is_tag tag ≡ true → list_all is_tag_byte tag ≡ true
tag_bytes tag h = grind arith

joined : (xs ys : List ℕ) → no_lf xs ≡ true → no_lf ys ≡ true → no_lf (xs ++ ys) ≡ true
joined xs ys a b = list_all-append (λ b. not (b == 10)) xs ys ∙ ap₂ ◌&&◌ a b

front_whole : (tag : Option (List ℕ)) → AreTags tag → no_lf (tag_front tag) ≡ true
front_whole None h = refl
front_whole (Some tag) h = joined (codes "Tag=" ++ tag) (44 ∷ []) (joined (codes "Tag=") tag refl (tag_no_lf tag (tag_bytes tag h))) refl

divided : (d : ℕ) → d < 2 ^ 64 → 1000 * d / 1000 < 2 ^ 64
divided d h = omega (arith, h)

-- the header of a divisor is not a header to the reader
no_header_said : (rest : List ℕ) → entry_of_header (codes "[MaxValueDivisor: " ++ rest) ≡ None
unfolding header_of
no_header_said rest = refl

divisor_is_line : (d : ℕ) → no_lf (divisor_line d) ≡ true → IsLine (divisor_line d)
divisor_is_line d w = record { whole = w; known = λ n. comment_skipped (codes "[MaxValueDivisor: " ++ (thousandths_text (1000 * d) ++ codes "]")) }

pub piece_lines : (p : Piece) → IsPiece p → AllByRecursion IsLine (lines_of p) × (entries_of (lines_of p) ≡ entries_of_piece p)
piece_lines (Comment text) h = (comment_lines_are (parts 10 text) (parts_whole text), comment_entries (parts 10 text))
piece_lines (StartsAt t) h = ((entry_line (start_line t) (Start (t * 1_000_000)) (header_whole (codes "#[StartTime: ") t refl h) (start_entry t h), tt), ap (λ o. and_entry o []) (start_entry t h))
piece_lines (BasedAt t) h = ((entry_line (base_line t) (Base (t * 1_000_000)) (header_whole (codes "#[BaseTime: ") t refl h) (base_entry t h), tt), ap (λ o. and_entry o []) (base_entry t h))
piece_lines (Divided d) h =
    let w : no_lf (divisor_line d) ≡ true = joined (codes "#[MaxValueDivisor: ") (thousandths_text (1000 * d) ++ codes "]") refl (joined (thousandths_text (1000 * d)) (codes "]") (no_byte 10 (1000 * d) refl refl (divided d h)) refl) in
    ((divisor_is_line d w, tt), ap (λ o. and_entry o []) (comment_entry (codes "[MaxValueDivisor: " ++ (thousandths_text (1000 * d) ++ codes "]")) ∙ no_header_said (thousandths_text (1000 * d) ++ codes "]")))
piece_lines (Measured tag start duration max field) h =
    let n1 : no_lf (thousandths_text start) ≡ true = no_byte 10 start refl refl h.1 in
    let n2 : no_lf (thousandths_text duration) ≡ true = no_byte 10 duration refl refl h.2 in
    let n3 : no_lf (thousandths_text max) ≡ true = no_byte 10 max refl refl h.3 in
    let w : no_lf (interval_line tag start duration max field) ≡ true = joined (tag_front tag) _ (front_whole tag h.0) (joined (thousandths_text start) _ n1 (joined (thousandths_text duration) _ n2 (joined (thousandths_text max) (44 ∷ field) n3 h.4.line))) in
    let e = interval_entry tag start duration max field h.0 h.1 h.2 h.3 h.4.text h.4.whole in
    ((entry_line _ _ w e, tt), ap (λ o. and_entry o []) e)

all_append : (xs ys : List (List ℕ)) → AllByRecursion IsLine xs → AllByRecursion IsLine ys → AllByRecursion IsLine (xs ++ ys)
all_append [] ys a b = b
all_append (x ∷ xs) ys a b = (a.0, all_append xs ys a.1 b)

and_entry_append : (o : Option Entry) (xs ys : List Entry) → and_entry o (xs ++ ys) ≡ and_entry o xs ++ ys
and_entry_append None xs ys = refl
and_entry_append (Some e) xs ys = refl

entries_append : (xs ys : List (List ℕ)) → entries_of (xs ++ ys) ≡ entries_of xs ++ entries_of ys
entries_append [] ys = refl
entries_append (x ∷ xs) ys = ap (and_entry (entry_of x)) (entries_append xs ys) ∙ and_entry_append (entry_of x) (entries_of xs) (entries_of ys)

pieces_lines : (ps : List Piece) → AllByRecursion IsPiece ps → AllByRecursion IsLine (flat_map lines_of ps) × (entries_of (flat_map lines_of ps) ≡ flat_map entries_of_piece ps)
pieces_lines [] h = (tt, refl)
pieces_lines (p ∷ ps) h =
    let one = piece_lines p h.0 in
    let more = pieces_lines ps h.1 in
    (all_append (lines_of p) (flat_map lines_of ps) one.0 more.0, entries_append (lines_of p) (flat_map lines_of ps) ∙ ap₂ ◌++◌ one.1 more.1)

lines_append : (xs ys : List (List ℕ)) → lines_text (xs ++ ys) ≡ lines_text xs ++ lines_text ys
lines_append [] ys = refl
lines_append (x ∷ xs) ys = ap (λ t. with_line_feed x ++ t) (lines_append xs ys) ∙ sym (append_assoc (with_line_feed x) (lines_text xs) (lines_text ys))

-- the text of pieces is that of their lines
text_lines : (ps : List Piece) → text_of ps ≡ lines_text (flat_map lines_of ps)
unfolding piece_text
text_lines [] = refl
text_lines (p ∷ ps) = ap (λ t. lines_text (lines_of p) ++ t) (text_lines ps) ∙ sym (lines_append (lines_of p) (flat_map lines_of ps))

pub pieces_read : (ps : List Piece) → AllByRecursion IsPiece ps → reading (text_of ps) ≡ map is_read (flat_map entries_of_piece ps)
pieces_read ps h = let l = pieces_lines ps h in ap reading (text_lines ps) ∙ lines_read (flat_map lines_of ps) 0 l.0 ∙ ap (map is_read) l.1
