-- Tables whose columns have runs of blanks between them.
use Rattle.std.specs.Prelude.{◌≡◌, ℕ, ◌==◌, ◌||◌, Bool, List, [], ◌∷◌, ◌++◌, take, drop, if◌then◌else◌}
use Rattle.hdr_input.specs.declared.blanks.before.Before.{Before}
use Rattle.hdr_input.specs.declared.blanks.before.Before.TheVariants.{Start, Text, Blank}
use Rattle.hdr_input.specs.declared.blanks.buffer.BlankBuffer.{BlankBuffer}

-- a space or a tab
abbrev pub is_blank : ℕ → Bool
is_blank b = b == 32 || b == 9

-- a line feed or a carriage return
abbrev pub ends_line : ℕ → Bool
ends_line b = b == 10 || b == 13

abbrev pub after_blank : Before → Before
after_blank Start = Start
after_blank Text = Blank
after_blank Blank = Blank

abbrev pub after : ℕ → Before
after b = if ends_line b then Start else Text

-- bytes of a line, after a space if blanks were before them
abbrev pub spaced : Before → List ℕ → List ℕ
spaced Start bytes = bytes
spaced Text bytes = bytes
spaced Blank bytes = 32 ∷ bytes

-- bytes with one space for each run of blanks between others of a line, and none at the start and at the end of a line
unfoldable pub squeezed : Before → List ℕ → List ℕ
squeezed before [] = []
squeezed before (b ∷ bs) =
    if is_blank b then squeezed (after_blank before) bs
    else if ends_line b then b ∷ squeezed Start bs
    else spaced before (b ∷ squeezed Text bs)

-- the bytes that were read and not passed on
abbrev pub unread : BlankBuffer → List ℕ
unread p = drop p.next (take p.end p.bytes)

-- what is passed on if these bytes follow
abbrev pub passed_on : BlankBuffer → List ℕ → List ℕ
passed_on p rest = squeezed p.before (unread p ++ rest)

-- nothing is left to be passed on, but of the bytes that follow
pub record IsDone (old new : BlankBuffer) : Type 0 where
  pub none : unread new ≡ []
  pub same : (rest : List ℕ) → passed_on old rest ≡ passed_on new rest

-- a byte is passed on
abbrev pub PassesOn : ℕ → BlankBuffer → BlankBuffer → Type 0
PassesOn b old new = (rest : List ℕ) → passed_on old rest ≡ b ∷ passed_on new rest

-- the same of a text
abbrev pub squeezed_text : List ℕ → List ℕ
squeezed_text text = squeezed Start text
