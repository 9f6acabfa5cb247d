-- The ends of an interval.
use Rattle.std.specs.Prelude.{◌≡◌, ℕ, ◌≤◌, ◌⊎◌}
use Rattle.hdr_compare.specs.Ends.{IsFarLow, IsFarHigh, ReachesFirst, ReachesLast}
use Rattle.hdr_compare.specs.Tiers.{edge_of, normal_of}
use Rattle.hdr_compare.specs.declared.ends.Basis.{Basis}

-- the interval begins with the sample after `under` ones: it is farther below the quantile than by chance, or is the first of all
abbrev pub IsFirstOfInterval : Basis → (under : ℕ) → Type 0
IsFirstOfInterval b under =
    IsFarLow b.samples b.independent b.quantile under (normal_of b.tier) ⊎ ((under ≡ 0) × ReachesFirst b.independent b.quantile (edge_of b.tier))

-- it ends with the last of `upto` samples: the one before that is farther above the quantile than by chance, or it is the last of all
abbrev pub IsLastOfInterval : Basis → (upto : ℕ) → Type 0
IsLastOfInterval b upto =
    IsFarHigh b.samples b.independent b.quantile upto (normal_of b.tier) ⊎ ((b.samples ≤ upto) × ReachesLast b.independent b.quantile (edge_of b.tier))
