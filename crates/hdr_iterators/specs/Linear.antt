-- The state of the picker of levels at equal steps. (The fields of the Rust crate's `linear::Iter`, as an invariant.)
use Rattle.std.specs.Prelude.{◌≡◌, ℕ, ◌-◌, ◌/◌, ◌^◌, ◌<◌, ◌≤◌, ◌==◌, List, map, Option, Some, None, Bool, false, ◌||◌, nat_lt, if◌then◌else◌, MatchOption}
use Rattle.std.specs.List.{range_with_len}
use Rattle.hdr_iterators.specs.Seen.{Seen, AreBins, top_in, lowest_in}
use Rattle.hdr_iterators.specs.Picks.{Pick}
use Rattle.hdr_iterators.specs.Places.{level_pick, linear_level, linear_count, linear_end, levels_below}

-- the levels from number j on
abbrev pub levels_from : Seen → ℕ → ℕ → List Pick
levels_from h step j = map (λ k. level_pick h (linear_level step k)) (range_with_len j (linear_count h step - j))

-- the first pick at the last recorded bin or after it sets the end
abbrev pub end_at : Seen → Option ℕ → ℕ → Option ℕ
end_at h (Some e) i = Some e
end_at h None i = if nat_lt i h.last then None else Some (top_in h i)

abbrev pub is_past : ℕ → Option ℕ → Bool
is_past next (Some e) = nat_lt e next
is_past next None = false

abbrev pub is_last_level : ℕ → ℕ → Option ℕ → Bool
is_last_level level next end = (level == 2 ^ 64 - 1) || is_past next end

-- how many levels are below the last recorded class
abbrev pub first_end : Seen → ℕ → ℕ
first_end h step = levels_below step (lowest_in h h.last)

pub record LinearStep (h : Seen) (step level : ℕ) (end : Option ℕ) (done : Bool) : Type 0 where
  pub plain : AreBins h
  pub some : 1 ≤ step
  pub level_is : level ≡ linear_level step (level / step)
  pub going : done ≡ false → (level / step < linear_count h step) × MatchOption end (level / step ≤ first_end h step) (λ e. (e ≡ linear_end h step) × (first_end h step < level / step))
