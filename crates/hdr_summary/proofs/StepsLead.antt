-- Steps that lead from a value to another, and one more.
use Rattle.std.proofs.Common.{◌≡◌, ℕ, ◌+◌, ◌≤◌, cond, leb, List, [], ◌∷◌, ◌++◌, refl, sym, ap, ◌∙◌, arith}
use Rattle.std.proofs.lemmas.Bool.Decides.{nat_tests}
use Rattle.std.proofs.lemmas.List.Sums.{sum_by-cons, sum_by-append, sum_by-le-sum_by}
use Rattle.hdr_base.specs.Classes.{Resolution, lowest_of}
use Rattle.hdr_summary.specs.declared.bars.Step.{Step}
use Rattle.hdr_summary.specs.Bars.{LeadTo, count_of, begun, HaveBegun}

-- a step more leads further
pub lead-append : (from : ℕ) (steps : List Step) (s : Step) → LeadTo from steps s.lowest → s.lowest ≤ s.greatest
    → LeadTo from (steps ++ s ∷ []) (s.greatest + 1)
lead-append from [] s leads le = (sym leads, (let h : from ≤ s.greatest = omega (arith, leads, le) in h), refl)
lead-append from (t ∷ steps) s leads le = (leads.0, leads.1, lead-append (t.greatest + 1) steps s leads.2 le)

-- a step more adds its count
pub count-append : (steps : List Step) (s : Step) → count_of (steps ++ s ∷ []) ≡ count_of steps + s.count
count-append steps s = sum_by-append (λ (t : Step). t.count) steps (s ∷ []) ∙ ap (λ n. count_of steps + n) (sum_by-cons (λ (t : Step). t.count) s [] ∙ (let e : s.count + 0 ≡ s.count = omega arith in e))

-- no fewer classes begin up to a greater value
one-ascends : (x a b : ℕ) → a ≤ b → cond (leb x a) 1 0 ≤ cond (leb x b) 1 0
one-ascends x a b le = grind (arith, nat_tests)

pub begun-ascends : (g : Resolution) (S : List ℕ) (a b : ℕ) → a ≤ b → begun g S a ≤ begun g S b
begun-ascends g S a b le = sum_by-le-sum_by (λ s. cond (leb (lowest_of g s) a) 1 0) (λ s. cond (leb (lowest_of g s) b) 1 0) S (λ s. one-ascends (lowest_of g s) a b le)

-- a step more has the samples of its classes
pub begun-append : (g : Resolution) (S : List ℕ) (before : ℕ) (steps : List Step) (s : Step) → HaveBegun g S before steps
    → before + count_of steps + s.count ≡ begun g S s.greatest → HaveBegun g S before (steps ++ s ∷ [])
begun-append g S before [] s have is = ((let e : before + s.count ≡ begun g S s.greatest = omega (arith, is) in e), tt)
begun-append g S before (t ∷ steps) s have is =
    (have.0, begun-append g S (before + t.count) steps s have.1 (omega (arith, is, sum_by-cons (λ (u : Step). u.count) t steps)))
