use Rattle.std.proofs.Common.{◌≡◌, ℕ, ◌+◌, take}
use Rattle.std.specs.List.{All}
use Rattle.hdr_view.specs.Naming.{IsLineOf, times, times_in}
use Rattle.hdr_view.proofs.naming.push_singles.Given as goal

abbrev pub invariant-loop-index : goal.invariant-loop-index
invariant-loop-index l = ((index : ℕ) → times_in index l.lines.items ≡ times_in index l.initial.lines.items + times index (take l.index-index l.single))
    × (All (IsLineOf l.incidents) l.initial.lines.items → All (IsLineOf l.incidents) l.lines.items)
