-- The order of the tags on a page.
use Rattle.std.specs.Prelude.{◌≡◌, ℕ, ◌&&◌, ◌++◌, ◌∷◌, ◌==◌, [], Bool, List, not, nat_lt, if◌then◌else◌, length, map}
use Rattle.std.specs.List.{filter, filter_map, flat_map, fold, list_any, range_with_len}
use Rattle.std.specs.Prelude.{slice_get}
use Rattle.std.specs.List.Sorted.{IsPermutation, IsSorted}
use Rattle.std.specs.Ordering.{nat_cmp}
use Rattle.hdr_verdict.specs.declared.episode.Episode.{Episode}
use Rattle.hdr_verdict.specs.declared.incident.Incident.{Incident}
use Rattle.hdr_view.specs.declared.naming.NamedIncidents.{NamedIncidents}

-- the tags of an incident: that of the heaviest episode, and then the others
abbrev pub tags_of : Incident → List ℕ
tags_of i = i.heaviest.tag ∷ map (λ (e : Episode). e.tag) i.joined.items

-- the indices of the incidents that have letters
abbrev pub indices_of : List NamedIncidents → List ℕ
indices_of lines = flat_map (λ line. line.all.items) lines

-- the incidents at some indices, in ascending order of these
abbrev pub AreAt : List ℕ → List Incident → List Incident → Type 0
AreAt indices incidents chosen = (sorted : List ℕ) × IsPermutation indices sorted × IsSorted nat_cmp sorted × (chosen ≡ filter_map (slice_get incidents) sorted)

-- whether a tag is one of some
abbrev pub is_one_of : List ℕ → ℕ → Bool
is_one_of tags tag = list_any (λ other. other == tag) tags

-- the first of some tags with one more: if fewer than ten are there and it is none of them, and it is below their number
abbrev pub with_first : ℕ → List ℕ → ℕ → List ℕ
with_first count first tag = if (nat_lt (length first) 10 && nat_lt tag count) && not (is_one_of first tag) then first ++ tag ∷ [] else first

-- the first tags of incidents, each once
abbrev pub first_tags : ℕ → List Incident → List ℕ
first_tags count incidents = fold (λ first i. fold (with_first count) first (tags_of i)) [] incidents

-- some tags, and then the others below a number
abbrev pub with_others : ℕ → List ℕ → List ℕ
with_others count first = first ++ filter (λ tag. not (is_one_of first tag)) (range_with_len 0 count)
