use Rattle.std.proofs.Common.{◌≡◌, ℕ, List, ◌++◌, length, take}
use Rattle.hdr_input.specs.Blanks.{passed_on}
use Rattle.hdr_input.proofs.blanks.buffer.BlankBuffer.pass_on.Given as goal

abbrev pub invariant-loop-at : goal.invariant-loop-at
invariant-loop-at l = (length l.buf ≡ length l.fn.buf)
    × ((rest : List ℕ) → passed_on l.fn.self rest ≡ take l.at l.buf ++ passed_on l.self rest)
