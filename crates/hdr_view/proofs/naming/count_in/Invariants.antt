use Rattle.std.proofs.Common.{◌≡◌, take}
use Rattle.hdr_view.specs.Naming.{count_in}
use Rattle.hdr_view.proofs.naming.count_in.Given as goal

abbrev pub invariant-loop-line : goal.invariant-loop-line
invariant-loop-line l = l.count ≡ count_in (take l.line-index l.lines)
