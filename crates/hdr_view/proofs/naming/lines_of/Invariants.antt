use Rattle.std.proofs.Common.{◌≡◌, ℕ, ◌+◌, Bor, map, take}
use Rattle.hdr_view.specs.declared.naming.Short.{Short}
use Rattle.std.specs.List.{All}
use Rattle.hdr_view.specs.Naming.{IsLineOf, times, times_in}
use Rattle.hdr_view.proofs.naming.lines_of.Given as goal

abbrev pub invariant-loop-short : goal.invariant-loop-short
invariant-loop-short l = ((index : ℕ) → times_in index l.lines.items + times index l.single.items + times index (map (λ (s : Bor Short). s.now.index) l.alike.items)
    ≡ times index l.initial.single.items + times index (map (λ (s : Short). s.index) (take l.short-index l.short-items)))
    × All (IsLineOf l.incidents) l.lines.items
