-- Looking for the first interval line by line.
use Rattle.std.proofs.Common.{◌≡◌, ◌∙◌, ℕ, ◌+◌, ◌<◌, Bool, List, [], ◌∷◌, length, Option, Some, None, refl, subst, sym, ap, arith}
use Rattle.hdr_log.specs.Parts.{parts, split_at_byte}
use Rattle.std.specs.Option.{option_or}
use Rattle.hdr_log.specs.Grammar.{Entry, Start, Base, Span, entry_of}
use Rattle.hdr_log.specs.Timed.{TimedInterval, base_after, interval_after, time_after}
use Rattle.hdr_log.proofs.GrammarSteps.{split_parted, split_none, some_part}
use Rattle.hdr_c.specs.Logs.{Found, End, Invalid, Line, first_from, is_passed, or_later}

line_step : (at : ℕ) (base : Option ℕ) (line part : List ℕ) (lines : List (List ℕ)) → first_from at base (line ∷ part ∷ lines) ≡ or_later (entry_of line) (is_passed line) at (at + length line + 1) base (λ later. first_from (at + length line + 1) later (part ∷ lines))
unfolding first_from
line_step at base [] part lines = refl
line_step at base (x ∷ line) part lines = refl

first_step : (at : ℕ) (base : Option ℕ) (text line rest : List ℕ) → split_at_byte 10 text ≡ Some (line, rest) → first_from at base (parts 10 text) ≡ or_later (entry_of line) (is_passed line) at (at + length line + 1) base (λ later. first_from (at + length line + 1) later (parts 10 rest))
first_step at base text line rest h =
    let p : (first : List ℕ) × (more : List (List ℕ)) × (parts 10 rest ≡ first ∷ more) = some_part rest in
    let e : parts 10 text ≡ line ∷ parts 10 rest = split_parted text line rest h in
    rw (e, p.2) (line_step at base line p.0 p.1)

-- a line with an entry
pub has_entry : (at : ℕ) (base : Option ℕ) (text line rest : List ℕ) (e : Entry) (all : Found) → first_from at base (parts 10 text) ≡ all → Some (line, rest) ≡ split_at_byte 10 text → Some e ≡ entry_of line → or_later (Some e) (is_passed line) at (at + length line + 1) base (λ later. first_from (at + length line + 1) later (parts 10 rest)) ≡ all
has_entry at base text line rest e all same h says =
    ap (λ o. or_later o (is_passed line) at (at + length line + 1) base (λ later. first_from (at + length line + 1) later (parts 10 rest))) says
    ∙ sym (first_step at base text line rest (sym h)) ∙ same

-- an entry is an interval, after the last base time of the lines read or the one before them
pub has_interval : (last base : Option ℕ) (e : Entry) (skipped : Bool) (at next : ℕ) (later : Option ℕ → Found) (i : TimedInterval) (after now : Option ℕ) (all : Found) → Some i ≡ interval_after last e → now ≡ base_after last e
    → after ≡ option_or now base → or_later (Some e) skipped at next (option_or last base) later ≡ all → Line at next after i.interval ≡ all
has_interval last base (Start time) skipped at next later i after now all is moved last_is h = absurd (let f = is in cc)
has_interval last base (Base time) skipped at next later i after now all is moved last_is h = absurd (let f = is in cc)
has_interval last base (Span j) skipped at next later i after now all is moved last_is h =
    let same : i ≡ record { time = time_after last j.start; interval = j } = let f = is in cc in
    ap (λ (x : TimedInterval). Line at next after x.interval) same ∙ ap (λ b. Line at next b j) (last_is ∙ ap (λ o. option_or o base) moved) ∙ h

-- an entry without an interval: the search goes on
pub has_no_interval : (last base : Option ℕ) (e : Entry) (skipped : Bool) (at next : ℕ) (later : Option ℕ → Found) (now : Option ℕ) (all : Found) → None ≡ interval_after last e → now ≡ base_after last e
    → or_later (Some e) skipped at next (option_or last base) later ≡ all → later (option_or now base) ≡ all
has_no_interval last base (Start time) skipped at next later now all is moved h = ap (λ o. later (option_or o base)) moved ∙ h
has_no_interval last base (Base time) skipped at next later now all is moved h = ap (λ o. later (option_or o base)) moved ∙ h
has_no_interval last base (Span j) skipped at next later now all is moved h = absurd (let f = is in cc)

-- a line without an entry
pub has_none : (at : ℕ) (base : Option ℕ) (text line rest : List ℕ) (skipped : Bool) (all : Found) → first_from at base (parts 10 text) ≡ all → Some (line, rest) ≡ split_at_byte 10 text → None ≡ entry_of line → skipped ≡ is_passed line → or_later None skipped at (at + length line + 1) base (λ later. first_from (at + length line + 1) later (parts 10 rest)) ≡ all
has_none at base text line rest skipped all same h says skip =
    ap (λ s. or_later None s at (at + length line + 1) base (λ later. first_from (at + length line + 1) later (parts 10 rest))) skip
    ∙ ap (λ o. or_later o (is_passed line) at (at + length line + 1) base (λ later. first_from (at + length line + 1) later (parts 10 rest))) says
    ∙ sym (first_step at base text line rest (sym h)) ∙ same

-- no line is left
pub has_end : (at : ℕ) (base : Option ℕ) (text : List ℕ) (all : Found) → first_from at base (parts 10 text) ≡ all → length text ≡ 0 → End ≡ all
unfolding first_from
has_end at base [] all same h = same
has_end at base (x ∷ text) all same h = absurd (omega arith)

-- a line without an LF is left
pub has_rest : (at : ℕ) (base : Option ℕ) (text : List ℕ) (all : Found) → first_from at base (parts 10 text) ≡ all → None ≡ split_at_byte 10 text → 0 < length text → Invalid at ≡ all
unfolding first_from
has_rest at base [] all same h n = absurd (omega arith)
has_rest at base (x ∷ text) all same h n = subst (λ (p : List (List ℕ)). first_from at base p ≡ all) (split_none (x ∷ text) (sym h)) same
