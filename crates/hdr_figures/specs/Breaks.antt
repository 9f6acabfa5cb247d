-- Times that an axis leaves out.
use Rattle.std.specs.Prelude.{ℕ, ◌≤◌, ◌+◌, ◌-◌, ◌^◌, ◌⊎◌, List, nat_le, if◌then◌else◌, min}
use Rattle.std.specs.List.{All, fold}
use Rattle.hdr_logs.specs.declared.stored.StoredInterval.{StoredInterval}
use Rattle.hdr_figures.specs.declared.breaks.Break.{Break}

-- a break lasts a day or more, and no interval begins within it
abbrev pub IsBreakOf : List StoredInterval → Break → Type 0
IsBreakOf all b = (86400000 ≤ b.end - b.start) × All (λ i. (i.start ≤ b.start) ⊎ (b.end ≤ i.start)) all

-- how much of a break is before a time
abbrev pub part_before : ℕ → Break → ℕ
part_before time b = min b.end time - b.start

-- what is left of a length of time up to another without the breaks before that
abbrev pub without_breaks : ℕ → List Break → ℕ → ℕ
without_breaks time breaks length = fold (λ left b. left - part_before time b) length breaks

-- a time on an axis without breaks, with those that begin before it
abbrev pub with_breaks : List Break → ℕ → ℕ
with_breaks breaks time = fold (λ t b. if nat_le b.start t then min (t + (b.end - b.start)) (2 ^ 64 - 1) else t) time breaks
