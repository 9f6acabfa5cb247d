-- One byte that was read.
use Rattle.std.proofs.Common.{rules, ◌≡◌, ℕ, ◌+◌, ◌<◌, ◌≤◌, List, ◌∷◌, ◌++◌, length, take, drop, slice_index, true, false, []}
use Rattle.std.proofs.lemmas.List.{drop_more, get_or-take}
use Rattle.hdr_input.specs.Blanks.{is_blank, ends_line, after_blank, after, squeezed}
use Rattle.hdr_input.specs.declared.blanks.before.Before.{Before}
use Rattle.hdr_input.specs.declared.blanks.before.Before.TheVariants.{Start, Text, Blank}

-- the bytes from an index to before another are the first and the others
unread_next : (bytes : List ℕ) (next end : ℕ) → next < end → end ≤ length bytes → drop next (take end bytes) ≡ slice_index bytes next ∷ drop (next + 1) (take end bytes)
unread_next bytes next end below within = search (rules, drop_more (take end bytes) next 0, get_or-take end bytes next 0)

squeeze_blank : (before : Before) (b : ℕ) (bs : List ℕ) → is_blank b ≡ true → squeezed before (b ∷ bs) ≡ squeezed (after_blank before) bs
unfolding squeezed
squeeze_blank before b bs is = search (rules)

squeeze_space : (b : ℕ) (bs : List ℕ) → is_blank b ≡ false → ends_line b ≡ false → squeezed Blank (b ∷ bs) ≡ 32 ∷ squeezed Text (b ∷ bs)
unfolding squeezed
squeeze_space b bs blank end = search (rules)

squeeze_end : (before : Before) (b : ℕ) (bs : List ℕ) → is_blank b ≡ false → ends_line b ≡ true → squeezed before (b ∷ bs) ≡ b ∷ squeezed (after b) bs
unfolding squeezed
squeeze_end before b bs blank end = search (rules)

squeeze_text : (b : ℕ) (bs : List ℕ) → is_blank b ≡ false → ends_line b ≡ false → squeezed Text (b ∷ bs) ≡ b ∷ squeezed (after b) bs
unfolding squeezed
squeeze_text b bs blank end = search (rules)

squeeze_start : (b : ℕ) (bs : List ℕ) → is_blank b ≡ false → ends_line b ≡ false → squeezed Start (b ∷ bs) ≡ b ∷ squeezed (after b) bs
unfolding squeezed
squeeze_start b bs blank end = search (rules)

-- a blank is skipped
pub skips : (before : Before) (bytes : List ℕ) (next end : ℕ) (rest : List ℕ) → next < end → end ≤ length bytes → is_blank (slice_index bytes next) ≡ true
    → squeezed before (drop next (take end bytes) ++ rest) ≡ squeezed (after_blank before) (drop (next + 1) (take end bytes) ++ rest)
skips before bytes next end rest below within blank =
    search (rules, unread_next bytes next end below within, squeeze_blank before (slice_index bytes next) (drop (next + 1) (take end bytes) ++ rest) blank)

-- a space is passed on for the blanks before another byte
pub spaces : (bytes : List ℕ) (next end : ℕ) (rest : List ℕ) → next < end → end ≤ length bytes
    → is_blank (slice_index bytes next) ≡ false → ends_line (slice_index bytes next) ≡ false
    → squeezed Blank (drop next (take end bytes) ++ rest) ≡ 32 ∷ squeezed Text (drop next (take end bytes) ++ rest)
spaces bytes next end rest below within blank end_of =
    search (rules, unread_next bytes next end below within, squeeze_space (slice_index bytes next) (drop (next + 1) (take end bytes) ++ rest) blank end_of)

-- another byte is passed on
pub passes_end : (before : Before) (bytes : List ℕ) (next end : ℕ) (rest : List ℕ) → next < end → end ≤ length bytes
    → is_blank (slice_index bytes next) ≡ false → ends_line (slice_index bytes next) ≡ true
    → squeezed before (drop next (take end bytes) ++ rest) ≡ slice_index bytes next ∷ squeezed (after (slice_index bytes next)) (drop (next + 1) (take end bytes) ++ rest)
passes_end before bytes next end rest below within blank end_of =
    search (rules, unread_next bytes next end below within, squeeze_end before (slice_index bytes next) (drop (next + 1) (take end bytes) ++ rest) blank end_of)

pub passes_text : (bytes : List ℕ) (next end : ℕ) (rest : List ℕ) → next < end → end ≤ length bytes
    → is_blank (slice_index bytes next) ≡ false → ends_line (slice_index bytes next) ≡ false
    → squeezed Text (drop next (take end bytes) ++ rest) ≡ slice_index bytes next ∷ squeezed (after (slice_index bytes next)) (drop (next + 1) (take end bytes) ++ rest)
passes_text bytes next end rest below within blank end_of =
    search (rules, unread_next bytes next end below within, squeeze_text (slice_index bytes next) (drop (next + 1) (take end bytes) ++ rest) blank end_of)

pub passes_start : (bytes : List ℕ) (next end : ℕ) (rest : List ℕ) → next < end → end ≤ length bytes
    → is_blank (slice_index bytes next) ≡ false → ends_line (slice_index bytes next) ≡ false
    → squeezed Start (drop next (take end bytes) ++ rest) ≡ slice_index bytes next ∷ squeezed (after (slice_index bytes next)) (drop (next + 1) (take end bytes) ++ rest)
passes_start bytes next end rest below within blank end_of =
    search (rules, unread_next bytes next end below within, squeeze_start (slice_index bytes next) (drop (next + 1) (take end bytes) ++ rest) blank end_of)

-- no byte is left
pub squeeze_none : (before : Before) → squeezed before [] ≡ []
unfolding squeezed
squeeze_none before = search (rules)
