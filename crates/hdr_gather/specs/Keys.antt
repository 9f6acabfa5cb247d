-- The time and the tag of intervals, and their order.
use Rattle.std.specs.Prelude.{◌≡◌, ℕ, List, map}
use Rattle.std.specs.Borrow.{Bor}
use Rattle.std.specs.declared.cmp.Ordering.{Ordering}
use Rattle.std.specs.declared.cmp.Ordering.TheVariants.{Less}
use Rattle.std.specs.Ordering.{nat_cmp, ordering_then, is_lt}
use Rattle.std.specs.Cmp.Lexicographic.{slice_cmp}
use Rattle.std.specs.List.Sorted.{IsSortedBy}
use Rattle.hdr_logs.specs.Stored.{Stored, view_of_stored}
use Rattle.hdr_logs.specs.declared.stored.StoredInterval.{StoredInterval}

-- the intervals behind references
abbrev pub all_of : List (Bor StoredInterval) → List Stored
all_of parts = map (λ part. view_of_stored part.now) parts

-- what intervals have in common that are merged: the millisecond at which they begin, and their tag
abbrev pub key_of : Stored → ℕ × List ℕ
key_of i = (i.start, i.tag)

-- the order of keys: by time, and at one time by the bytes of the tags, where no tag comes first
abbrev pub key_cmp : ℕ × List ℕ → ℕ × List ℕ → Ordering
key_cmp one other = ordering_then (nat_cmp one.0 other.0) (slice_cmp nat_cmp one.1 other.1)

-- an interval has an earlier time than another, or the same time and an earlier tag
abbrev pub IsBefore : Stored → Stored → Type 0
IsBefore one other = key_cmp (key_of one) (key_of other) ≡ Less

-- intervals are sorted by time, and those of one time by tag
abbrev pub AreSorted : List Stored → Type 0
AreSorted all = IsSortedBy (λ one other. is_lt (key_cmp (key_of one) (key_of other))) all
