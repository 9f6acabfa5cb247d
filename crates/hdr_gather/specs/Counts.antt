-- How many intervals are gathered, and how many of them are finer than their sum.
use Rattle.std.specs.Prelude.{◌≡◌, ℕ, ◌+◌, ◌-◌, ◌^◌, min, ◌&&◌, nat_le, if◌then◌else◌, List, [], ◌∷◌}
use Rattle.hdr_base.specs.Classes.{Resolution}
use Rattle.hdr_model.specs.Plain.{Plain, resolution}
use Rattle.hdr_gather.specs.declared.sum.Counts.{Counts}

-- 1 if a histogram is finer than a sum of this resolution, whose classes do not lie in those of the histogram
abbrev pub one_if_finer : Resolution → Plain → ℕ
one_if_finer g h = if nat_le g.unit (resolution h).unit && nat_le (resolution h).digits g.digits then 0 else 1

-- how many histograms are finer than a sum of this resolution
abbrev pub finer_of : Resolution → List Plain → ℕ
finer_of g [] = 0
finer_of g (h ∷ hs) = one_if_finer g h + finer_of g hs

-- these are the numbers of intervals and of finer ones, as far as 64 bits hold them
abbrev pub AreCounts : Counts → ℕ → ℕ → Type 0
AreCounts counts intervals finer = (counts.intervals ≡ min intervals (2 ^ 64 - 1)) × (counts.finer ≡ min finer (2 ^ 64 - 1))

-- more intervals are counted, some of which are finer than their sum
abbrev pub CountsMore : Counts → ℕ → ℕ → Counts → Type 0
CountsMore old more finer new = (n m : ℕ) → AreCounts old n m → AreCounts new (n + more) (m + finer)
