-- Incidents: episodes of several tags at one time.
use Rattle.std.specs.Prelude.{◌≡◌, ℕ, ◌≤◌, ◌+◌, ◌-◌, ◌*◌, ◌^◌, ◌==◌, ◌&&◌, ◌||◌, not, nat_le, if◌then◌else◌, Bool, true, false, max, min, List, [], ◌∷◌, ◌++◌, map}
use Rattle.std.specs.List.{fold, list_any, sum_by, count_by, All}
use Rattle.std.specs.List.Sorted.{IsPermutation, IsSortedBy}
use Rattle.std.specs.Ordering.{nat_cmp, ordering_then, is_lt}
use Rattle.std.specs.declared.cmp.Ordering.{Ordering}
use Rattle.hdr_verdict.specs.Episodes.{EpisodeValue, view_of_episode, overlap}
use Rattle.hdr_verdict.specs.declared.episode.EpisodeKind.{EpisodeKind}
use Rattle.hdr_verdict.specs.declared.episode.EpisodeKind.TheVariants.{Slow, Stall, Gap, Fall}
use Rattle.hdr_verdict.specs.declared.incident.Incident.{Incident}
use Rattle.hdr_verdict.specs.declared.order.Key.{Key}

-- episodes of several tags at one time: the heaviest, those that joined it, and the sum of their weights
pub record IncidentValue : Type 0 where
  pub heaviest : EpisodeValue
  pub joined : List EpisodeValue
  pub weight : ℕ

abbrev pub view_of_incident : Incident → IncidentValue
view_of_incident i = record { heaviest = view_of_episode i.heaviest; joined = map view_of_episode i.joined.items; weight = i.weight }

-- samples are slow, and not missing
abbrev pub is_slow : EpisodeKind → Bool
is_slow Slow = true
is_slow Stall = true
is_slow Gap = false
is_slow Fall = false

-- two episodes overlap for half of their union or more
abbrev pub is_alike : EpisodeValue → EpisodeValue → Bool
is_alike e f = nat_le (max e.end f.end - min e.start f.start) (2 * overlap e.start e.end f.start f.end)

-- the episodes of an incident
abbrev pub episodes_in : IncidentValue → List EpisodeValue
episodes_in i = i.heaviest ∷ i.joined

-- an incident has an episode of a tag
abbrev pub has_tag : IncidentValue → ℕ → Bool
has_tag incident tag = list_any (λ e. e.tag == tag) (episodes_in incident)

-- samples did not come, and then they were slow
abbrev pub is_stall : EpisodeKind → Bool
is_stall Slow = false
is_stall Stall = true
is_stall Gap = false
is_stall Fall = false

-- an episode of an incident is a stall
abbrev pub has_stall : IncidentValue → Bool
has_stall incident = list_any (λ e. is_stall e.kind) (episodes_in incident)

-- an episode of an incident is not over at the end of the log
abbrev pub has_lasting : IncidentValue → Bool
has_lasting incident = list_any (λ e. e.lasts) (episodes_in incident)

-- both are slow, or samples are missing in both
abbrev pub is_same_sort : EpisodeValue → EpisodeValue → Bool
is_same_sort e f = if is_slow e.kind then is_slow f.kind else not (is_slow f.kind)

-- an episode is of an incident: it is of the same sort as the heaviest one, at the same time, and no other is of its tag
abbrev pub accepts : IncidentValue → EpisodeValue → Bool
accepts incident e = (is_same_sort incident.heaviest e && is_alike incident.heaviest e) && not (has_tag incident e.tag)

-- an incident with one more episode; the sum of the weights is at most 2^128 - 1
abbrev pub joined_by : IncidentValue → EpisodeValue → IncidentValue
joined_by incident e = record incident { joined = incident.joined ++ e ∷ []; weight = min (incident.weight + e.weight) (2 ^ 128 - 1) }

-- an incident of one episode
abbrev pub new_incident : EpisodeValue → IncidentValue
new_incident e = record { heaviest = e; joined = []; weight = e.weight }

-- the incidents with one more episode: the first that accepts it has it, or else a new one
abbrev pub with_episode : List IncidentValue → EpisodeValue → List IncidentValue
with_episode [] e = new_incident e ∷ []
with_episode (i ∷ is) e = if accepts i e then joined_by i e ∷ is else i ∷ with_episode is e

-- the order of keys: the heavier is first, then the earlier, then the lesser tag
abbrev pub key_cmp : Key → Key → Ordering
key_cmp k l = ordering_then (nat_cmp l.weight k.weight) (ordering_then (nat_cmp k.start l.start) (nat_cmp k.tag l.tag))

abbrev pub key_of_episode : EpisodeValue → Key
key_of_episode e = record { weight = e.weight; start = e.start; tag = e.tag }

abbrev pub key_of_incident : IncidentValue → Key
key_of_incident i = record { weight = i.weight; start = i.heaviest.start; tag = i.heaviest.tag }

-- in falling order of weight, and those of one weight by start and tag
abbrev pub AreSortedEpisodes : List EpisodeValue → Type 0
AreSortedEpisodes es = IsSortedBy (λ e f. is_lt (key_cmp (key_of_episode e) (key_of_episode f))) es

abbrev pub AreSortedIncidents : List IncidentValue → Type 0
AreSortedIncidents is = IsSortedBy (λ i j. is_lt (key_cmp (key_of_incident i) (key_of_incident j))) is

-- the incidents of episodes: these in falling order of weight, each of them in the first incident that accepts it. The incidents
-- are in falling order of weight too
pub record AreIncidents (episodes : List EpisodeValue) (incidents : List IncidentValue) : Type 0 where
  pub sorted : List EpisodeValue
  pub is_sorted : AreSortedEpisodes sorted
  pub permutes : IsPermutation episodes sorted
  pub joins : IsPermutation (fold with_episode [] sorted) incidents
  pub are_sorted : AreSortedIncidents incidents

-- each episode that joined an incident is of the same sort as the heaviest one, and overlaps it for half of their union or more
abbrev pub JoinsAlike : IncidentValue → Type 0
JoinsAlike i = All (λ e. (is_same_sort i.heaviest e ≡ true) × (is_alike i.heaviest e ≡ true)) i.joined

-- an incident has at most one episode of a tag
abbrev pub HasEachTagOnce : IncidentValue → Type 0
HasEachTagOnce i = (tag : ℕ) → count_by (λ e. e.tag == tag) (episodes_in i) ≤ 1

-- an incident has the weight of its episodes together, at most 2^128 - 1
abbrev pub HasSumOfWeights : IncidentValue → Type 0
HasSumOfWeights i = i.weight ≡ min (sum_by (λ e. e.weight) (episodes_in i)) (2 ^ 128 - 1)

-- none of the episodes that joined is heavier than the first
abbrev pub HasHeaviestFirst : IncidentValue → Type 0
HasHeaviestFirst i = All (λ e. e.weight ≤ i.heaviest.weight) i.joined
