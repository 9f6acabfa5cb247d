-- The incidents that have letters.
use Rattle.std.specs.Prelude.{◌≡◌, ◌↔◌, ◌||◌, Bool, true, false, Option, None, Some, slice_get, ℕ, ◌+◌, ◌-◌, ◌^◌, ◌<◌, ◌==◌, List, IsTrue, if◌then◌else◌, nat_lt, length, take, drop, min, max, not}
use Rattle.std.specs.List.{All, fold, sum_by}
use Rattle.std.specs.List.Sorted.{IsPermutation, IsSorted}
use Rattle.std.specs.Ordering.{bool_cmp, nat_cmp, ordering_then}
use Rattle.std.specs.declared.cmp.Ordering.{Ordering}
use Rattle.hdr_verdict.specs.Incidents.{has_stall, view_of_incident}
use Rattle.hdr_verdict.specs.declared.episode.EpisodeKind.{EpisodeKind}
use Rattle.hdr_verdict.specs.declared.episode.EpisodeKind.TheVariants.{Gap}
use Rattle.hdr_verdict.specs.declared.incident.Incident.{Incident}
use Rattle.hdr_view.specs.declared.naming.NamedIncidents.{NamedIncidents}
use Rattle.hdr_view.specs.declared.naming.Naming.{Naming}

-- how often an index is in a list
abbrev pub times : ℕ → List ℕ → ℕ
times index indices = sum_by (λ other. if other == index then 1 else 0) indices

-- how often an incident is in lines
abbrev pub times_in : ℕ → List NamedIncidents → ℕ
times_in index lines = sum_by (λ line. times index line.all.items) lines

-- each of a number of incidents is in one line, once
abbrev pub HaveEachOnce : ℕ → List NamedIncidents → Type 0
HaveEachOnce count lines = (index : ℕ) → times_in index lines ≡ if nat_lt index count then 1 else 0

-- how many incidents are in lines, up to 2^64 - 1
abbrev pub count_in : List NamedIncidents → ℕ
count_in lines = fold (λ count line. min (count + length line.all.items) (2 ^ 64 - 1)) 0 lines

-- the index of the lightest of the heaviest incidents of lines, where a heavier one has a lesser index
abbrev pub lightest : List NamedIncidents → ℕ
lightest lines = fold (λ index line. max index line.heaviest) 0 lines

-- the least of some indices
abbrev pub least : List ℕ → ℕ
least indices = fold (λ index other. min index other) (2 ^ 64 - 1) indices

-- whether an incident is a stall or a gap
abbrev pub is_gap : EpisodeKind → Bool
is_gap Gap = true
is_gap kind = false

abbrev pub is_first : Option Incident → Bool
is_first None = false
is_first (Some i) = has_stall (view_of_incident i) || is_gap i.heaviest.kind

-- when an incident begins, and its first tag
abbrev pub start_of : Option Incident → ℕ
start_of None = 0
start_of (Some i) = i.heaviest.start

abbrev pub tag_of : Option Incident → ℕ
tag_of None = 0
tag_of (Some i) = i.heaviest.tag

-- a line has what its heaviest incident has
pub record IsLineOf (incidents : List Incident) (line : NamedIncidents) : Type 0 where
  pub heaviest : line.heaviest ≡ least line.all.items
  pub first : line.comes_first ≡ is_first (slice_get incidents line.heaviest)
  pub start : line.start ≡ start_of (slice_get incidents line.heaviest)
  pub tag : line.tag ≡ tag_of (slice_get incidents line.heaviest)

-- stalls and gaps are first, and then it goes by weight
abbrev pub weight_cmp : NamedIncidents → NamedIncidents → Ordering
weight_cmp one other = ordering_then (bool_cmp (not one.comes_first) (not other.comes_first)) (nat_cmp one.heaviest other.heaviest)

-- by time, and at one time by tag
abbrev pub time_cmp : NamedIncidents → NamedIncidents → Ordering
time_cmp one other = ordering_then (nat_cmp one.start other.start) (nat_cmp one.tag other.tag)

-- lines of incidents: the first eight of them have letters, in order of time, and the incidents of the others are counted
pub record IsNaming (incidents : List Incident) (n : Naming) : Type 0 where
  pub lines : List NamedIncidents
  pub each_once : HaveEachOnce (length incidents) lines
  pub each : All (IsLineOf incidents) lines
  pub by_weight : IsSorted weight_cmp lines
  pub by_time : IsSorted time_cmp n.named.items
  pub named : IsPermutation (take 8 lines) n.named.items
  pub others : n.others ≡ count_in (drop 8 lines)
  pub are_lighter : IsTrue n.are_lighter ↔ All (λ line. lightest (take 8 lines) < line.heaviest) (drop 8 lines)
