use Rattle.std.proofs.Common.{◌≡◌, ◌∙◌, ◌-◌, ◌<◌, get_or, map, length, ap, arith, inl, inr}
use Rattle.std.proofs.lemmas.Bool.{cases_eq}
use Rattle.hdr_counts.proofs.BlocksSums.{number-at}
use Rattle.hdr_counts.proofs.BlocksNonzero.{none-above}
use Rattle.hdr_counts.proofs.ends.last_of.Goals as goal

pub returns-then-most-eq0-clause-index : goal.returns-then-most-eq0-clause-index
returns-then-most-eq0-clause-index g c = none-above g.T.Counter.number c.args.counters.now (omega (arith, c.requires))

pub loop-passed-preserved : goal.loop-passed-preserved
loop-passed-preserved g c = λ j le.
    let n = g.T.Counter.number in
    let xs = c.args.counters.now in
    let i = length xs - 1 - c.loop-passed.passed in
    let at : i < length xs = omega arith in
    let here = number-at n xs i c.index-counters-i.result at c.index-counters-i.is in
    elim (cases_eq j i) [
      | inl same ↦ ap (λ k. get_or (map n xs) k 0) same ∙ (let none : get_or (map n xs) i 0 ≡ 0 = omega (arith, here, c.as_u64.ensures.value) in none)
      | inr other ↦ c.loop-passed.invariant j (omega arith)
    ]
