-- The tests of a tag.
use Rattle.std.specs.Prelude.{◌≡◌, map, ℕ, List, [], ◌∷◌, length, Option, Some, None, true, false}
use Rattle.std.specs.List.{flat_map, sum_by}
use Rattle.std.specs.Option.{option_map}
use Rattle.hdr_verdict.specs.Usual.{usual_of, threshold_of}
use Rattle.hdr_verdict.specs.declared.slow.Test.{Test}
use Rattle.hdr_verdict.specs.declared.level.TailLevel.{TailLevel}
use Rattle.hdr_verdict.specs.declared.tail.Tail.{Tail}
use Rattle.hdr_verdict.specs.declared.usual.Usual.{Usual}

-- the tails of p50, p90, p99 and p99.9
abbrev pub AreUsualTails : List Tail → Type 0
AreUsualTails tails = (map (λ t. t.num) tails ≡ 1 ∷ 1 ∷ 1 ∷ 1 ∷ []) × (map (λ t. t.den) tails ≡ 2 ∷ 10 ∷ 100 ∷ 1000 ∷ [])

-- what is usual for a tail of cells with these samples
abbrev pub usual_in : List (List ℕ) → Tail → Option Usual
usual_in cells tail = usual_of tail.num tail.den (sum_by length cells) cells

-- the test of a tail, if it is known what is usual
abbrev pub usual_test : Tail → Option Usual → List Test
usual_test tail None = []
usual_test tail (Some usual) = record { tail = tail; usual = Some usual.value; threshold = threshold_of usual; is_level = false } ∷ []

abbrev pub usual_tests : List Tail → List (List ℕ) → List Test
usual_tests tails cells = flat_map (λ tail. usual_test tail (usual_in cells tail)) tails

-- the tests of the usual tails
abbrev pub AreUsualTests : List (List ℕ) → List Test → Type 0
AreUsualTests cells tests = (tails : List Tail) × AreUsualTails tails × (tests ≡ usual_tests tails cells)

-- the test of a level
abbrev pub level_test : TailLevel → List (List ℕ) → Test
level_test level cells = record { tail = level.tail; usual = option_map (λ u. u.value) (usual_in cells level.tail); threshold = level.value; is_level = true }
