use Rattle.std.proofs.Common.{ℕ, rules}
use Rattle.std.proofs.lemmas.List.Sorted.{answers_always}
use Rattle.hdr_input.specs.declared.intervals.TimeSlice.{TimeSlice}
use Rattle.hdr_input.proofs.intervals.Intervals.take_all.Goals as goal

pub returns-clause-order : goal.returns-clause-order
returns-clause-order c =
    let key : TimeSlice → ℕ × ℕ = λ s. (s.number, s.group) in
    rw c.replace.ensures.value (c.in_ok-sort_by_key.ensures.sorted key (answers_always _ _ _ (λ f a r f' k. search rules)))
