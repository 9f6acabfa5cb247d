-- Logs that are laid over one another.
use Rattle.std.specs.Prelude.{◌≡◌, ◌≤◌, ℕ, ◌+◌, ◌-◌, List, [], ◌∷◌, ◌++◌, map}
use Rattle.std.specs.List.{All, Contains}
use Rattle.hdr_logs.specs.Stored.{Stored}

-- one of these times, and none is earlier
abbrev pub IsEarliest : List ℕ → ℕ → Type 0
IsEarliest times earliest = Contains times earliest × All (λ time. earliest ≤ time) times

-- when the first of some intervals begins
abbrev pub IsFirstStart : List Stored → ℕ → Type 0
IsFirstStart all first = IsEarliest (map (λ i. i.start) all) first

-- an interval that begins as long after one time as it began after another
abbrev pub moved : (from to : ℕ) → Stored → Stored
moved from to i = record { start = to + (i.start - from); tag = i.tag; duration = i.duration; field = i.field }

-- intervals were all moved by the same time, so that the first of them begins at this time
abbrev pub BeginAt : ℕ → List Stored → List Stored → Type 0
BeginAt to [] new = new ≡ []
BeginAt to (i ∷ old) new = (from : ℕ) × IsFirstStart (i ∷ old) from × (new ≡ map (moved from to) (i ∷ old))

-- intervals are behind others, and the first of them begins with the first of the others, if there are others
abbrev pub LieOver : List Stored → List Stored → List Stored → Type 0
LieOver [] old all = all ≡ old
LieOver (i ∷ before) old all =
    (start : ℕ) × (new : List Stored) × IsFirstStart (i ∷ before) start × BeginAt start old new × (all ≡ (i ∷ before) ++ new)
