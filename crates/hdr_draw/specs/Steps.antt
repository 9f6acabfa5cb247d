-- The steps of a scale.
use Rattle.std.specs.Prelude.{◌≡◌, ◌==◌, ℕ, ◌+◌, ◌-◌, ◌*◌, ◌/◌, ◌%◌, ◌^◌, ◌<◌, ◌≤◌, ◌⊎◌, ◌↔◌, List, [], ◌∷◌, length, map, nat_lt, slice_index, IsTrue, if◌then◌else◌}
use Rattle.std.specs.List.{All, Contains}
use Rattle.hdr_draw.specs.declared.times.TimeTick.{TimeTick}

-- a step is 1, 2 or 5 times a power of ten
abbrev pub IsStep : ℕ → Type 0
IsStep n = (k : ℕ) × ((n ≡ 10 ^ k) ⊎ ((n ≡ 2 * 10 ^ k) ⊎ (n ≡ 5 * 10 ^ k)))

-- the greatest step at or below a value
pub record IsStepBelow (value step : ℕ) : Type 0 where
  pub is : IsStep step
  pub within : step ≤ value
  pub greatest : (n : ℕ) → IsStep n → n ≤ value → n ≤ step

-- the least step at or above a value, or the greatest number of 64 bits above the last step
pub record IsStepAbove (value step : ℕ) : Type 0 where
  pub is : value ≤ 10 ^ 19 → IsStep step
  pub last : 10 ^ 19 < value → step ≡ 2 ^ 64 - 1
  pub within : value ≤ step
  pub least : (n : ℕ) → IsStep n → value ≤ n → step ≤ n

-- the step at an index: 1, 2, 5, 10, 20 and so on
unfoldable pub step_of : ℕ → ℕ
step_of index =
    if index % 3 == 0 then 10 ^ (index / 3)
    else (if index % 3 == 1 then 2 * 10 ^ (index / 3) else 5 * 10 ^ (index / 3))

-- each number is below the next
abbrev pub IsStrictlyAscending : List ℕ → Type 0
IsStrictlyAscending xs = (k : ℕ) → k + 1 < length xs → slice_index xs k < slice_index xs (k + 1)

-- the steps from low to high, ascending, as far as they are below the step at an index
pub record AreSteps (low high index : ℕ) (xs : List ℕ) : Type 0 where
  pub steps : All IsStep xs
  pub inside : All (λ n. (low ≤ n) × (n ≤ high)) xs
  pub below : All (λ n. n < step_of index) xs
  pub ascending : IsStrictlyAscending xs
  pub every : (k : ℕ) → k < index → low ≤ step_of k → step_of k ≤ high → Contains xs (step_of k)

-- a time from another to a third that is a multiple of a step
abbrev pub IsTickTime : ℕ → ℕ → ℕ → ℕ → Type 0
IsTickTime step from to time = (from ≤ time) × (time ≤ to) × (time % step ≡ 0)

-- the ticks of a scale of time, ascending: one at each multiple of the step between two times that is below a bound. Of these
-- multiples each `every`-th is coarse
pub record AreTicks (step every from to bound : ℕ) (ticks : List TimeTick) : Type 0 where
  pub times : All (λ t. IsTickTime step from to t.time) ticks
  pub below : All (λ t. t.time < bound) ticks
  pub ascending : IsStrictlyAscending (map (λ t. t.time) ticks)
  pub all : (time : ℕ) → IsTickTime step from to time → time < bound → Contains (map (λ t. t.time) ticks) time
  pub coarse : All (λ t. IsTrue t.is_coarse ↔ t.time / step % every ≡ 0) ticks

-- the steps of time in seconds, from a second to a month of 30 days
unfoldable pub time_steps : List ℕ
time_steps = 1 ∷ 2 ∷ 5 ∷ 10 ∷ 15 ∷ 30 ∷ 60 ∷ 120 ∷ 300 ∷ 600 ∷ 900 ∷ 1800 ∷ 3600 ∷ 7200 ∷ 10800 ∷ 21600 ∷ 43200 ∷ 86400 ∷ 172800 ∷ 604800 ∷ 2592000 ∷ []

-- a step of time is one of these, or a number of months
abbrev pub IsTimeStep : ℕ → Type 0
IsTimeStep step = Contains time_steps step ⊎ ((months : ℕ) × (0 < months) × (step ≡ months * 2592000))

-- how many steps a span has at most: fewer of those below a minute, whose texts have seconds
unfoldable pub most_steps : ℕ → ℕ
most_steps step = if nat_lt step 60 then 5 else 8

-- how many texts a narrow drawing of a span has at most
unfoldable pub most_texts : ℕ → ℕ
most_texts step = if nat_lt step 60 then 3 else 4

-- the shortest step in seconds that fits a span in milliseconds: the span has at most `most_steps` of it
pub record IsStepOfSpan (span step : ℕ) : Type 0 where
  pub is : IsTimeStep step
  pub few : span ≤ most_steps step * (1000 * step)
  pub shortest : (other : ℕ) → IsTimeStep other → span ≤ most_steps other * (1000 * other) → step ≤ other

-- the least number of steps from one text to the next with which a span in milliseconds has at most `most_texts`
pub record IsEvery (span step every : ℕ) : Type 0 where
  pub some : 0 < every
  pub few : span ≤ most_texts step * (every * (1000 * step))
  pub least : (other : ℕ) → 0 < other → span ≤ most_texts step * (other * (1000 * step)) → every ≤ other
