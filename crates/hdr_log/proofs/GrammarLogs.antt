-- All that is written to a log is read back.
use Rattle.std.proofs.Common.{◌≡◌, ℕ, ◌+◌, ◌*◌, ◌/◌, ◌^◌, ◌<◌, ◌==◌, Bool, true, false, not, List, [], ◌∷◌, ◌++◌, length, Option, Some, None, codes, refl, sym, ap, ◌∙◌, arith, append_assoc}
use Rattle.std.specs.Prelude.{map}
use Rattle.std.proofs.lemmas.Bool.{eq-eqb, false≢true}
use Rattle.std.specs.Char.{is_ascii_digit}
use Rattle.std.specs.List.{list_all, AllByRecursion}
use Rattle.std.specs.Option.{option_map, option_or}
use Rattle.std.specs.Str.{is_utf8}
use Rattle.hdr_log.specs.Parts.{parts, split_at_byte, number_of}
use Rattle.hdr_log.specs.Grammar.{after_front, Entry, Start, Base, Span, time_of, interval_of, header_of, entry_of, is_skipped, and_then, time_before, readings, without_crs}
use Rattle.hdr_log.specs.Texts.{thousandths_text, with_line_feed, lines_text, tag_front, interval_line, start_line, AreTags}
use Rattle.hdr_log.specs.Pieces.{and_entry, entry_of_header, is_read}
use Rattle.hdr_log.proofs.PartsFronts.{parted_front, parted_whole}
use Rattle.hdr_log.proofs.GrammarSteps.{readings_step, readings_nothing}
use Rattle.hdr_log.proofs.GrammarLines.{after_front-whole, after_front-other, begins, not_hash, time_read, interval_read}

-- a line has no LF, and is an entry or is skipped
pub record IsLine (line : List ℕ) : Type 0 where
  pub whole : list_all (λ b. not (b == 10)) line ≡ true
  pub known : entry_of line ≡ None → is_skipped line ≡ true

-- what lines say, in order
abbrev pub entries_of : List (List ℕ) → List Entry
entries_of [] = []
entries_of (line ∷ lines) = and_entry (entry_of line) (entries_of lines)

chosen : (o : Option Entry) (skip : Bool) (at : ℕ) (entries : List Entry) → (o ≡ None → skip ≡ true) → and_then o skip at (map is_read entries) ≡ map is_read (and_entry o entries)
chosen (Some e) skip at entries h = refl
chosen None skip at entries h = let s : skip ≡ true = h refl in rw s refl

-- the lines of a log are read one by one
pub lines_read : (lines : List (List ℕ)) (at : ℕ) → AllByRecursion IsLine lines → readings at (parts 10 (lines_text lines)) ≡ map is_read (entries_of lines)
lines_read [] at h = readings_nothing at [] refl
lines_read (line ∷ lines) at h =
    let e : with_line_feed line ++ lines_text lines ≡ line ++ 10 ∷ lines_text lines = append_assoc line (10 ∷ []) (lines_text lines) in
    let p : split_at_byte 10 (with_line_feed line ++ lines_text lines) ≡ Some (line, lines_text lines) = ap (split_at_byte 10) e ∙ parted_front 10 line (lines_text lines) h.0.whole in
    let rest : readings (at + length line + 1) (parts 10 (lines_text lines)) ≡ map is_read (entries_of lines) = lines_read lines (at + length line + 1) h.1 in
    readings_step at (with_line_feed line ++ lines_text lines) line (lines_text lines) p ∙ ap (and_then (entry_of line) (is_skipped line) at) rest ∙ chosen (entry_of line) (is_skipped line) at (entries_of lines) h.0.known

-- a line that doesn't start with # has no header
no_header : (x : ℕ) (line name : List ℕ) → (35 == x) ≡ false → header_of (35 ∷ name) (x ∷ line) ≡ None
unfolding header_of
no_header x line name h = let b : after_front (35 ∷ name) (x ∷ line) ≡ None = after_front-other 35 x name line h in rw b refl

same_heads : (x y : ℕ) (xs ys : List ℕ) → x ∷ xs ≡ y ∷ ys → x ≡ y
same_heads x y xs ys h = cc

first_kept : (b c : ℕ) (line whole rest : List ℕ) → (c == b) ≡ false → c ∷ line ≡ whole ++ b ∷ rest → (more : List ℕ) × (whole ≡ c ∷ more)
first_kept b c line [] rest n h = let e : c ≡ b = same_heads c b line rest h in absurd (false≢true (sym n ∙ eq-eqb c b e))
first_kept b c line (x ∷ whole) rest n h = let e : c ≡ x = same_heads c x line (whole ++ b ∷ rest) h in (whole, ap (λ y. y ∷ whole) (sym e))

number_none : (text : List ℕ) → number_of (35 ∷ text) ≡ None
unfolding number_of
number_none text = grind arith

time_none_by : (line : List ℕ) (o : Option (List ℕ × List ℕ)) → split_at_byte 46 (35 ∷ line) ≡ o → time_of (35 ∷ line) ≡ None
unfolding time_of
time_none_by line None e = rw e refl
time_none_by line (Some p) e =
    let k : (more : List ℕ) × (p.0 ≡ 35 ∷ more) = first_kept 46 35 line p.0 p.1 refl (parted_whole 46 (35 ∷ line) p e) in
    let n : number_of p.0 ≡ None = ap number_of k.1 ∙ number_none k.0 in
    rw e (rw n refl)

before_none_by : (b : ℕ) (line : List ℕ) (o : Option (List ℕ × List ℕ)) → (35 == b) ≡ false → split_at_byte b (35 ∷ line) ≡ o → time_before b (35 ∷ line) ≡ None
unfolding time_before
before_none_by b line None n e = rw e refl
before_none_by b line (Some p) n e =
    let k : (more : List ℕ) × (p.0 ≡ 35 ∷ more) = first_kept b 35 line p.0 p.1 n (parted_whole b (35 ∷ line) p e) in
    let t : time_of p.0 ≡ None = ap time_of k.1 ∙ time_none_by k.0 (split_at_byte 46 (35 ∷ k.0)) refl in
    rw e (rw t refl)

-- a line that starts with # is not an interval
no_interval : (line : List ℕ) → interval_of (35 ∷ line) ≡ None
unfolding interval_of
no_interval line = let t : time_before 44 (35 ∷ line) ≡ None = before_none_by 44 line (split_at_byte 44 (35 ∷ line)) refl refl in rw t refl

pub interval_begins : (tag : Option (List ℕ)) (t : ℕ) (rest : List ℕ) → t / 1000 < 2 ^ 64 → (x : ℕ) × (more : List ℕ) × (tag_front tag ++ (thousandths_text t ++ rest) ≡ x ∷ more) × ((35 == x) ≡ false)
interval_begins None t rest h = let b : (x : ℕ) × (more : List ℕ) × (thousandths_text t ≡ x ∷ more) × (is_ascii_digit x ≡ true) = begins t h in (b.0, b.1 ++ rest, ap (λ s. s ++ rest) b.2, not_hash b.0 b.3)
interval_begins (Some tag) t rest h = (84, codes "ag=" ++ tag ++ 44 ∷ [] ++ (thousandths_text t ++ rest), refl, refl)

pub interval_entry : (tag : Option (List ℕ)) (start duration max : ℕ) (field : List ℕ) → AreTags tag → start / 1000 < 2 ^ 64 → duration / 1000 < 2 ^ 64 → max / 1000 < 2 ^ 64 → is_utf8 field ≡ true → without_crs field ≡ field →
    entry_of (interval_line tag start duration max field) ≡ Some (Span (record { tag = tag; start = start * 1_000_000; duration = duration * 1_000_000; max = thousandths_text max; field = field }))
unfolding entry_of
interval_entry tag start duration max field ok hs hd hm u w =
    let b : (x : ℕ) × (more : List ℕ) × (interval_line tag start duration max field ≡ x ∷ more) × ((35 == x) ≡ false) = interval_begins tag start (44 ∷ (thousandths_text duration ++ 44 ∷ (thousandths_text max ++ 44 ∷ field))) hs in
    let s : header_of (codes "#[StartTime: ") (interval_line tag start duration max field) ≡ None = ap (header_of (codes "#[StartTime: ")) b.2 ∙ no_header b.0 b.1 (codes "[StartTime: ") b.3 in
    let t : header_of (codes "#[BaseTime: ") (interval_line tag start duration max field) ≡ None = ap (header_of (codes "#[BaseTime: ")) b.2 ∙ no_header b.0 b.1 (codes "[BaseTime: ") b.3 in
    rw (s, t, interval_read tag start duration max field ok hs hd hm u w) refl

-- a header is read
pub header_read : (name : List ℕ) (t : ℕ) (rest : List ℕ) → t / 1000 < 2 ^ 64 → header_of name (name ++ (thousandths_text t ++ 32 ∷ rest)) ≡ Some (t * 1_000_000)
unfolding header_of
header_read name t rest h =
    let b : after_front name (name ++ (thousandths_text t ++ 32 ∷ rest)) ≡ Some (thousandths_text t ++ 32 ∷ rest) = after_front-whole name (thousandths_text t ++ 32 ∷ rest) in
    rw (b, time_read 32 t rest refl refl h) refl

pub start_entry : (t : ℕ) → t / 1000 < 2 ^ 64 → entry_of (start_line t) ≡ Some (Start (t * 1_000_000))
unfolding entry_of
start_entry t h = let r : header_of (codes "#[StartTime: ") (start_line t) ≡ Some (t * 1_000_000) = header_read (codes "#[StartTime: ") t (codes "(seconds since epoch)]") h in
    rw r refl

nothing_more : (a b : Option Entry) → option_or a (option_or b None) ≡ option_or a b
nothing_more None None = refl
nothing_more None (Some y) = refl
nothing_more (Some x) b = refl

pub comment_entry : (part : List ℕ) → entry_of (35 ∷ part) ≡ entry_of_header part
unfolding entry_of
comment_entry part = rw (no_interval part) (nothing_more (option_map Start (header_of (codes "#[StartTime: ") (35 ∷ part))) (option_map Base (header_of (codes "#[BaseTime: ") (35 ∷ part))))

pub comment_skipped : (part : List ℕ) → is_skipped (35 ∷ part) ≡ true
unfolding is_skipped
comment_skipped part = refl
