-- The confidence of the intervals of a report.
use Rattle.std.specs.Prelude.{ℕ, ◌*◌, ◌-◌, min, nat_le, if◌then◌else◌, Option, Some, None, List, [], ◌∷◌, slice_index, slice_index_or}
use Rattle.std.specs.Int.{div_ceil}
use Rattle.hdr_base.specs.Fractions.{Ratio}
use Rattle.hdr_compare.specs.declared.tiers.Tier.{Tier}
use Rattle.hdr_compare.specs.declared.tiers.Tier.TheVariants.{FivePercent, OnePercent, OneInThousand, OneInTenThousand, OneInHundredThousand}

-- the normal quantile of half of the error, in thousandths
abbrev pub normal_of : Tier → ℕ
normal_of FivePercent = 1960
normal_of OnePercent = 2576
normal_of OneInThousand = 3291
normal_of OneInTenThousand = 3891
normal_of OneInHundredThousand = 4418

-- an interval reaches the first or the last sample if this many independent ones, in hundredths, are expected beyond the
-- quantile: ln (2 / error), rounded up
abbrev pub edge_of : Tier → ℕ
edge_of FivePercent = 369
edge_of OnePercent = 530
edge_of OneInThousand = 761
edge_of OneInTenThousand = 991
edge_of OneInHundredThousand = 1221

-- the confidence of each comparison of a report, so that all of them err in one of 20 reports on equal runs at most
abbrev pub tier_of : ℕ → Option Tier
tier_of comparisons =
    if nat_le comparisons 5 then Some OnePercent
    else if nat_le comparisons 50 then Some OneInThousand
    else if nat_le comparisons 500 then Some OneInTenThousand
    else if nat_le comparisons 5000 then Some OneInHundredThousand
    else None

-- how many independent samples an interval of a quantile needs, to have both ends
abbrev pub needed : Tier → Ratio → ℕ
needed tier q = div_ceil (edge_of tier * q.den) (100 * min q.num (q.den - q.num))

-- the number of a tier, from 0
abbrev pub index_of : Tier → ℕ
index_of FivePercent = 0
index_of OnePercent = 1
index_of OneInThousand = 2
index_of OneInTenThousand = 3
index_of OneInHundredThousand = 4

-- by what the square of the normal quantile grows if the variance is that over 4, 5 .. 16 batches, in thousandths, for each
-- tier: the square of the quantile of Student's t by that of the normal one, rounded up
abbrev pub students : List (List ℕ)
students =
    (2637 ∷ 5142 ∷ 15427 ∷ 51796 ∷ 186956 ∷ []) ∷
    (2007 ∷ 3195 ∷ 6848 ∷ 15963 ∷ 39529 ∷ []) ∷
    (1721 ∷ 2451 ∷ 4358 ∷ 8255 ∷ 16416 ∷ []) ∷
    (1559 ∷ 2072 ∷ 3280 ∷ 5450 ∷ 9418 ∷ []) ∷
    (1456 ∷ 1846 ∷ 2701 ∷ 4108 ∷ 6447 ∷ []) ∷
    (1385 ∷ 1697 ∷ 2348 ∷ 3350 ∷ 4905 ∷ []) ∷
    (1333 ∷ 1592 ∷ 2112 ∷ 2873 ∷ 3994 ∷ []) ∷
    (1293 ∷ 1514 ∷ 1944 ∷ 2549 ∷ 3405 ∷ []) ∷
    (1262 ∷ 1454 ∷ 1819 ∷ 2317 ∷ 2998 ∷ []) ∷
    (1236 ∷ 1407 ∷ 1722 ∷ 2143 ∷ 2702 ∷ []) ∷
    (1215 ∷ 1368 ∷ 1646 ∷ 2008 ∷ 2479 ∷ []) ∷
    (1198 ∷ 1336 ∷ 1584 ∷ 1901 ∷ 2306 ∷ []) ∷
    (1183 ∷ 1309 ∷ 1532 ∷ 1814 ∷ 2167 ∷ []) ∷ []

-- the same of k batches; more than 16 count as 16
unfoldable pub student_of : Tier → ℕ → ℕ
student_of tier k = slice_index (slice_index_or students (min k 16 - 4) []) (index_of tier)
