-- Values that were missed while a recorded one lasted, and what recording them too makes of a histogram. (`record_n_correct`:
-- the Rust crate records them one by one.)
use Rattle.std.specs.Prelude.{◌≡◌, ℕ, ◌+◌, ◌-◌, ◌*◌, ◌/◌, ◌<◌, ◌≤◌, nat_lt, List, [], ◌∷◌, length, map, count_by}
use Rattle.std.specs.List.{range_with_len}
use Rattle.hdr_base.specs.Classes.{Resolution}
use Rattle.hdr_model.specs.Plain.{Plain, resolution}
use Rattle.hdr_model.specs.Recording.{Times, after_records}
use Rattle.hdr_model.specs.Samples.{in_class}

-- the values v - j * i for j = 1, 2, .. that are at least i; none for i = 0
unfoldable pub missing : ℕ → ℕ → List ℕ
missing v i = map (λ j. v - j * i) (range_with_len 1 (v / i - 1))

-- x is v less some steps of i, and at least i
pub record IsMissing (v i x : ℕ) : Type 0 where
  pub steps : ℕ
  pub some : 0 < steps
  pub step : 0 < i
  pub at_least : i + steps * i ≤ v
  pub is : x ≡ v - steps * i

-- values that are recorded n times each
abbrev pub each_times : ℕ → List ℕ → List Times
each_times n [] = []
each_times n (v ∷ vs) = record { value = v; times = n } ∷ each_times n vs

-- the histogram after v and each of its missing values were recorded n times, one by one
unfoldable pub after_correct : ℕ → Plain → ℕ → ℕ → ℕ → Plain
after_correct greatest h v n i = after_records greatest h (each_times n (v ∷ missing v i))

-- how many of the classes hold at least one of the values
unfoldable pub classes_held : Resolution → ℕ → List ℕ → ℕ
classes_held g classes values = count_by (λ b. nat_lt 0 (in_class g b values)) (range_with_len 0 classes)

-- how many bins of a histogram hold at least one of the values
abbrev pub bins_held : Plain → List ℕ → ℕ
bins_held h values = classes_held (resolution h) (length h.counts) values

-- the values x, x - i, .. that are at least i
unfoldable pub down_to : ℕ → ℕ → List ℕ
down_to x i = map (λ j. x - j * i) (range_with_len 0 (x / i))
