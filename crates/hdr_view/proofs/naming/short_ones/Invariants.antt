use Rattle.std.proofs.Common.{◌≡◌, ℕ, ◌+◌, map}
use Rattle.std.specs.Prelude.{if◌then◌else◌, nat_lt}
use Rattle.hdr_view.specs.declared.naming.Short.{Short}
use Rattle.hdr_view.specs.Naming.{times}
use Rattle.hdr_view.proofs.naming.short_ones.Given as goal

abbrev pub invariant-loop-index : goal.invariant-loop-index
invariant-loop-index l = (index : ℕ) → times index l.single.items + times index (map (λ (s : Short). s.index) l.short.items)
    ≡ times index l.initial.single.items + (if nat_lt index l.index then 1 else 0)
