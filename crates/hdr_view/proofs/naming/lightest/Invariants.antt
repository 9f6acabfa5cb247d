use Rattle.std.proofs.Common.{◌≡◌, take}
use Rattle.hdr_view.specs.Naming.{lightest}
use Rattle.hdr_view.proofs.naming.lightest.Given as goal

abbrev pub invariant-loop-line : goal.invariant-loop-line
invariant-loop-line l = l.index ≡ lightest (take l.line-index l.lines)
