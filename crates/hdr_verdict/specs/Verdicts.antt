-- The verdict of a log.
use Rattle.std.specs.Prelude.{◌≡◌, ℕ, ◌+◌, List, [], ◌∷◌, ◌++◌, length, map, Option, None, Some}
use Rattle.std.specs.List.Sorted.{IsPermutation, IsSorted}
use Rattle.hdr_logs.specs.declared.stored.StoredInterval.{StoredInterval}
use Rattle.hdr_verdict.specs.Episodes.{EpisodeValue, end_of, episodes_of, start_of}
use Rattle.hdr_verdict.specs.Incidents.{AreIncidents, view_of_incident}
use Rattle.hdr_verdict.specs.Missing.{missing_of}
use Rattle.hdr_verdict.specs.Slow.{runs_in, slow_of, views_of}
use Rattle.hdr_verdict.specs.Tags.{AreTagsOf, bar_of, last_end, tag_cmp, total_of}
use Rattle.hdr_verdict.specs.TagSamples.{HasSamples, cells_of}
use Rattle.hdr_verdict.specs.Tests.{AreUsualTests, level_test}
use Rattle.hdr_verdict.specs.declared.cell.Cell.{Cell}
use Rattle.hdr_verdict.specs.declared.level.TailLevel.{TailLevel}
use Rattle.hdr_verdict.specs.declared.runs.Run.{Run}
use Rattle.hdr_verdict.specs.declared.slow.SlowTime.{SlowTime}
use Rattle.hdr_verdict.specs.declared.tags.Tag.{Tag}
use Rattle.hdr_verdict.specs.declared.verdict.LogVerdict.{LogVerdict}
use Rattle.hdr_verdict.specs.declared.verdict.Span.{Span}
use Rattle.hdr_verdict.specs.declared.verdict.TagFindings.{TagFindings}

-- when a run of cells begins and ends
abbrev pub span_of : List Cell → Run → Span
span_of cells run = record { start = start_of cells run; end = end_of cells run }

-- the times at which cells with these samples are over a level
abbrev pub times_over : ℕ → List Cell → List (List ℕ) → Option TailLevel → List Span
times_over bar cells samples None = []
times_over bar cells samples (Some level) = map (span_of cells) (runs_in (slow_of bar samples (level_test level samples ∷ [])))

-- what is found of a tag: the tests of what is usual for its samples, and the times over levels
pub record IsFound (bar : ℕ) (levels : List (Option TailLevel)) (tag : Tag) (found : TagFindings) : Type 0 where
  pub name : found.tag.now ≡ tag.name.now
  pub samples : found.samples ≡ total_of tag
  pub cells : found.cells ≡ length (cells_of tag.samples)
  pub tests : (samples : List (List ℕ)) → HasSamples tag.samples samples → AreUsualTests samples found.tests.items
  pub over : (samples : List (List ℕ)) → HasSamples tag.samples samples
      → map (λ over. over.items) found.over.items ≡ map (times_over bar (cells_of tag.samples) samples) levels

-- the episodes of the tag of an index: of its slow times by these tests, and of the times at which samples are missing
abbrev pub HasEpisodes : (bar end index : ℕ) → Tag → TagFindings → List EpisodeValue → Type 0
HasEpisodes bar end index tag found episodes = (samples : List (List ℕ)) → HasSamples tag.samples samples
    → (slow : List SlowTime) × (views_of slow ≡ slow_of bar samples found.tests.items)
    × (episodes ≡ episodes_of index (cells_of tag.samples) end slow (missing_of bar (cells_of tag.samples)))

-- what is found of tags, the first of which has this index, and their episodes, one tag after the other
abbrev pub AreFound : (bar : ℕ) → List (Option TailLevel) → (end index : ℕ) → List Tag → List TagFindings → List EpisodeValue → Type 0
AreFound bar levels end index [] found episodes = (found ≡ []) × (episodes ≡ [])
AreFound bar levels end index (tag ∷ tags) found episodes =
    (first : TagFindings) × (others : List TagFindings) × (own : List EpisodeValue) × (more : List EpisodeValue)
    × (found ≡ first ∷ others) × (episodes ≡ own ++ more) × IsFound bar levels tag first × HasEpisodes bar end index tag first own
    × AreFound bar levels end (index + 1) tags others more

-- the verdict of intervals: what is found of their tags, those with the most samples first, and the incidents of all episodes
pub record IsVerdictOf (intervals : List StoredInterval) (levels : List (Option TailLevel)) (v : LogVerdict) : Type 0 where
  pub named : List Tag
  pub are : AreTagsOf intervals named
  pub tags : List Tag
  pub permutation : IsPermutation named tags
  pub order : IsSorted tag_cmp tags
  pub bar : v.bar ≡ bar_of tags
  pub episodes : List EpisodeValue
  pub found : AreFound v.bar levels (last_end intervals) 0 tags v.tags.items episodes
  pub incidents : AreIncidents episodes (map view_of_incident v.incidents.items)
