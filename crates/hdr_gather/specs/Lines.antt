-- The lines of a gathered log.
use Rattle.std.specs.Prelude.{◌≤◌, ℕ, ◌*◌, List, ◌∷◌, Some, map}
use Rattle.std.specs.List.{All, Contains}
use Rattle.hdr_model.specs.Plain.{Plain}
use Rattle.hdrhistogram.specs.V2.{IsV2}
use Rattle.hdrhistogram.specs.LogLeaving.{IsIntervalText}
use Rattle.hdr_logs.specs.Intervals.{tag_or_none}
use Rattle.hdr_logs.specs.Stored.{Stored}
use Rattle.hdr_gather.specs.Sums.{IsSumOf}

-- one of these durations, and none is longer
abbrev pub IsLongest : List ℕ → ℕ → Type 0
IsLongest durations longest = Contains durations longest × All (λ duration. duration ≤ longest) durations

-- the line of an interval and of others of its time and tag: it has this time and tag, is as long as the longest, and has the sum of their histograms,
-- of which some are finer
abbrev pub IsLineOf : Stored → List Stored → ℕ → List ℕ → Type 0
IsLineOf first others finer text =
    (sum : Plain) × (length : ℕ) × IsSumOf (map (λ i. i.field) (first ∷ others)) sum finer × IsLongest (map (λ i. i.duration) (first ∷ others)) length
    × IsIntervalText IsV2 sum (tag_or_none (Some first.tag)) (first.start * 1_000_000) length 1 text
