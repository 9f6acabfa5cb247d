-- The samples of two logs, line by line.
use Rattle.std.proofs.Common.{◌≤◌, ◌==◌, ◌-◌, ◌^◌, ◌++◌, ℕ, [], ◌∷◌, List, None, replicate, refl, arith, lit<, lit≤}
use Rattle.std.specs.List.{enumerate_from}
use Rattle.std.proofs.lemmas.List.Sums.{count_by-le-length}
use Rattle.hdr_base.specs.Classes.{Resolution, bin_of, reach_of}
use Rattle.hdr_log.specs.Parts.{parts, number_of}
use Rattle.hdr_model.specs.Recording.{high_with}
use Rattle.hdr_model.specs.Runs.{State}
use Rattle.hdr_model.specs.Samples.{Fits, in_class}
use Rattle.hdr_tool.specs.Commands.{command_of_name}
use Rattle.hdr_tool.specs.LogMerges.{EndsWith}
use Rattle.hdr_tool.specs.Program.{Interval}
use Rattle.hdr_surface.specs.Overflows.{past_the_end, before_a_clear}

pub one_fits : (greatest : ℕ) (g : Resolution) → 1 ≤ greatest → Fits greatest g (1 ∷ [])
one_fits greatest g one =
    let few : (i : ℕ) → in_class g i (1 ∷ []) ≤ 1 = λ i. count_by-le-length (λ s. bin_of g s == i) (1 ∷ []) in
    record { in_all = lit< tt; in_classes = λ i. omega (arith, one, few i) }

-- the interval of one sample
abbrev pub the_end : Interval (List ℕ)
the_end = record { holds = 1 ∷ []; tag = None; start = 0; duration = 1000 }

-- a state after a number of samples of a value
abbrev pub recorded : Resolution → State → ℕ → ℕ → State
recorded g s n v = record { samples = s.samples ++ replicate n v; high = high_with g s.high v (reach_of g v) }

abbrev pub begun : State
begun = record { samples = []; high = 2 }

pub past_ends : (g : Resolution) → EndsWith g begun (enumerate_from 1 (parts 10 past_the_end)) (the_end ∷ [])
unfolding command_of_name number_of
past_ends g =
    let one = recorded g begun 1 1 in
    let rest : State = record { samples = []; high = one.high } in
    let many = recorded g rest 18_446_744_073_709_551_615 5 in
    (one, (refl, refl), ([], refl, one_fits (2 ^ 64 - 1) g (lit≤ tt), (many, (refl, refl), (recorded g many 1 5, (refl, refl), refl))))

pub cleared_ends : (g : Resolution) → EndsWith g begun (enumerate_from 1 (parts 10 before_a_clear)) (the_end ∷ [])
unfolding command_of_name number_of
cleared_ends g =
    let many = recorded g begun 18_446_744_073_709_551_615 5 in
    let more = recorded g many 1 5 in
    let none : State = record { samples = []; high = more.high } in
    let one = recorded g none 1 1 in
    (many, (refl, refl), (more, (refl, refl), (none, (refl, refl), (one, (refl, refl), ([], refl, one_fits (2 ^ 64 - 1) g (lit≤ tt), refl)))))
