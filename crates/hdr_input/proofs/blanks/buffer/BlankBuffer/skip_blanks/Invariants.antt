use Rattle.std.proofs.Common.{◌-◌, ◌≡◌, ℕ, List}
use Rattle.hdr_input.specs.Blanks.{passed_on}
use Rattle.hdr_input.proofs.blanks.buffer.BlankBuffer.skip_blanks.Given as goal

abbrev pub invariant-loop-self : goal.invariant-loop-self
invariant-loop-self l = (rest : List ℕ) → passed_on l.self rest ≡ passed_on l.fn.self rest

abbrev pub decreases-loop-self : goal.decreases-loop-self
decreases-loop-self l = l.self.end - l.self.next
