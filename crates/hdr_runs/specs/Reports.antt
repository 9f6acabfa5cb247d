-- Runs compared with one before them, by their tags and by percentiles.
use Rattle.std.specs.Prelude.{⊤, ◌≡◌, ◌⊎◌, ℕ, ◌-◌, ◌*◌, ◌^◌, ◌<◌, ◌≤◌, if◌then◌else◌, max, List, [], ◌∷◌, ◌++◌, length, map, Option, Some, None}
use Rattle.std.specs.Option.{option_map, option_copied}
use Rattle.std.specs.List.{AllZip, Contains, find, flat_map, fold, list_any}
use Rattle.std.specs.String.{string_bytes}
use Rattle.hdr_base.specs.Fractions.{Ratio}
use Rattle.hdr_compare.specs.Intervals.{samples_of}
use Rattle.hdr_compare.specs.Tiers.{tier_of}
use Rattle.hdr_compare.specs.declared.tiers.Tier.{Tier}
use Rattle.hdr_logs.specs.Sums.{is_same_tag}
use Rattle.hdr_runs.specs.Points.{IsPointOf, batches_of_side, decimals_of}
use Rattle.hdr_runs.specs.ReportChanges.{IsChange}
use Rattle.hdr_runs.specs.Scaled.{Overflows, times}
use Rattle.hdr_runs.specs.declared.change.Change.{Change}
use Rattle.hdr_runs.specs.declared.point.Point.{Point}
use Rattle.hdr_runs.specs.declared.report.Compared.{Compared}
use Rattle.hdr_runs.specs.declared.report.NamedRun.{NamedRun}
use Rattle.hdr_runs.specs.declared.report.Pair.{Pair}
use Rattle.hdr_runs.specs.declared.report.Report.{Report}
use Rattle.hdr_runs.specs.declared.report.ReportError.{ReportError}
use Rattle.hdr_runs.specs.declared.report.ReportError.TheVariants.{TooManyComparisons, TooLarge, OutOfMemory}
use Rattle.hdr_runs.specs.declared.side.Side.{Side}
use Rattle.hdr_summary.specs.declared.percentile.Percentile.{Percentile}

-- the tag of samples, or none
abbrev pub tag_of : Side → Option (List ℕ)
tag_of side = option_map string_bytes side.tag

-- the first samples of a tag
abbrev pub side_of : List Side → Option (List ℕ) → Option Side
side_of sides tag = find (λ side. is_same_tag (tag_of side) tag) sides

-- tags and one more, if it is a new one
abbrev pub with_tag : List (Option (List ℕ)) → Option (List ℕ) → List (Option (List ℕ))
with_tag tags tag = if list_any (λ other. is_same_tag other tag) tags then tags else tags ++ tag ∷ []

-- the tags of a run, and then those of others that are new, each once, in the order in which they first occur
abbrev pub tags_of : List Side → List NamedRun → List (Option (List ℕ))
tags_of before runs = fold with_tag (map tag_of before) (flat_map (λ run. map tag_of run.sides.items) runs)

-- what is compared with the first run: each tag, of each later run
pub record Subject : Type 0 where
  pub tag : Option (List ℕ)
  pub run : NamedRun

abbrev pub subject : Option (List ℕ) → NamedRun → Subject
subject tag run = record { tag = tag; run = run }

abbrev pub subjects_at : List NamedRun → Option (List ℕ) → List Subject
subjects_at runs tag = map (subject tag) runs

abbrev pub subjects_of : List Side → List NamedRun → List Subject
subjects_of before runs = flat_map (subjects_at runs) (tags_of before runs)

-- how often two percentiles are compared
abbrev pub comparisons : List Side → List NamedRun → List Percentile → ℕ
comparisons before runs percentiles = length (tags_of before runs) * length runs * length percentiles

-- a point of samples in units of these decimals, or none without samples
abbrev pub IsPointAt : Tier → (decimals : ℕ) → Ratio → Option Side → Option Point → Type 0
IsPointAt tier decimals q None found = found ≡ None
IsPointAt tier decimals q (Some side) None = samples_of (batches_of_side side) ≡ 0
IsPointAt tier decimals q (Some side) (Some point) =
    (own : Point) × IsPointOf side q tier own × (point.measured ≡ times (10 ^ (decimals - decimals_of side)) own.measured)
    × (point.independent ≡ own.independent)

-- a quantile has no interval: its percentile has more than 4 decimals, or is above 100
abbrev pub HasNoInterval : Ratio → Type 0
HasNoInterval q = (1000000 < q.den) ⊎ (q.den < q.num)

-- a point of samples overflows 64 bits in these units, or the units do, or its quantile has no interval
abbrev pub IsTooLargeAt : Tier → (decimals : ℕ) → Ratio → Option Side → Type 0
IsTooLargeAt tier decimals q None = ⊥
IsTooLargeAt tier decimals q (Some side) = HasNoInterval q
    ⊎ ((own : Point) × IsPointOf side q tier own
    × ((2 ^ 64 ≤ 10 ^ (decimals - decimals_of side)) ⊎ Overflows (10 ^ (decimals - decimals_of side)) own.measured))

-- the error in place of such a point
abbrev pub IsPointError : Tier → (decimals : ℕ) → Ratio → Option Side → ReportError → Type 0
IsPointError tier decimals q side TooManyComparisons = ⊥
IsPointError tier decimals q side TooLarge = IsTooLargeAt tier decimals q side
IsPointError tier decimals q side OutOfMemory = ⊤

-- the change of two points, if there are both
abbrev pub IsChangeOf : Option Point → Option Point → Option Change → Type 0
IsChangeOf (Some before) (Some after) (Some change) = IsChange before.measured after.measured change
IsChangeOf (Some before) (Some after) None = ⊥
IsChangeOf None after change = change ≡ None
IsChangeOf (Some before) None change = change ≡ None

-- the points of a percentile of the samples of both runs, and their change
pub record IsCompared (tier : Tier) (decimals : ℕ) (before after : Option Side) (percentile : Percentile) (c : Compared) : Type 0 where
  pub before_is : IsPointAt tier decimals percentile.quantile before c.before
  pub after_is : IsPointAt tier decimals percentile.quantile after c.after
  pub change_is : IsChangeOf c.before c.after c.change

-- the decimals of samples, 0 if there are none
abbrev pub decimals_or_none : Option Side → ℕ
decimals_or_none None = 0
decimals_or_none (Some side) = decimals_of side

-- the percentiles of a tag of two runs, in units of the finer one
pub record IsPairOf (tier : Tier) (before : List Side) (percentiles : List Percentile) (s : Subject) (p : Pair) : Type 0 where
  pub tag : option_copied p.tag ≡ s.tag
  pub run : p.run.now ≡ s.run.name.now
  pub before_is : option_copied p.before ≡ side_of before s.tag
  pub after_is : option_copied p.after ≡ side_of s.run.sides.items s.tag
  pub decimals : p.decimals ≡ max (decimals_or_none (option_copied p.before)) (decimals_or_none (option_copied p.after))
  pub percentiles_are :
      AllZip (IsCompared tier p.decimals (option_copied p.before) (option_copied p.after)) percentiles p.percentiles.items

-- runs compared with one before them: each tag of one of them, of each later run, in order
pub record IsReport (before : List Side) (runs : List NamedRun) (percentiles : List Percentile) (r : Report) : Type 0 where
  pub tier : tier_of (comparisons before runs percentiles) ≡ Some r.tier
  pub pairs : AllZip (IsPairOf r.tier before percentiles) (subjects_of before runs) r.pairs.items

-- a percentile of one of both is too large in units of these decimals
abbrev pub IsTooLargeIn : Tier → (decimals : ℕ) → Option Side → Option Side → List Percentile → Type 0
IsTooLargeIn tier decimals before after percentiles =
    (percentile : Percentile) × Contains percentiles percentile
    × (IsTooLargeAt tier decimals percentile.quantile before ⊎ IsTooLargeAt tier decimals percentile.quantile after)

-- the error in place of these percentiles
abbrev pub IsErrorOf : Tier → (decimals : ℕ) → Option Side → Option Side → List Percentile → ReportError → Type 0
IsErrorOf tier decimals before after percentiles TooManyComparisons = ⊥
IsErrorOf tier decimals before after percentiles TooLarge = IsTooLargeIn tier decimals before after percentiles
IsErrorOf tier decimals before after percentiles OutOfMemory = ⊤

-- the same of a tag of two runs, in units of the finer one
abbrev pub IsPairError : Tier → List Side → List Percentile → Subject → ReportError → Type 0
IsPairError tier before percentiles s error =
    let one = side_of before s.tag in
    let other = side_of s.run.sides.items s.tag in
    IsErrorOf tier (max (decimals_or_none one) (decimals_or_none other)) one other percentiles error

-- the same of one of these tags, and of one of the later runs
abbrev pub IsErrorAt : Tier → List Side → List (Option (List ℕ)) → List NamedRun → List Percentile → ReportError → Type 0
IsErrorAt tier before tags runs percentiles TooManyComparisons = ⊥
IsErrorAt tier before tags runs percentiles TooLarge =
    (s : Subject) × Contains tags s.tag × Contains runs s.run × IsPairError tier before percentiles s TooLarge
IsErrorAt tier before tags runs percentiles OutOfMemory = ⊤

-- the error in place of a report: more than 5,000 comparisons, or a value that overflows 64 bits
abbrev pub IsReportError : List Side → List NamedRun → List Percentile → ReportError → Type 0
IsReportError before runs percentiles TooManyComparisons = 5000 < comparisons before runs percentiles
IsReportError before runs percentiles TooLarge =
    (tier : Tier) × (tier_of (comparisons before runs percentiles) ≡ Some tier)
    × IsErrorAt tier before (tags_of before runs) runs percentiles TooLarge
IsReportError before runs percentiles OutOfMemory = ⊤
