use Rattle.std.proofs.Common.{◌≡◌, ℕ, ◌+◌, Bor, map, take}
use Rattle.hdr_view.specs.declared.naming.Short.{Short}
use Rattle.hdr_view.specs.Naming.{times}
use Rattle.hdr_view.proofs.naming.push_alike.Given as goal

abbrev pub invariant-loop-position : goal.invariant-loop-position
invariant-loop-position l = (index : ℕ) → times index l.single.items + times index l.all.items
    ≡ times index l.initial.single.items + times index (map (λ (s : Bor Short). s.now.index) (take l.position l.alike))
