use Rattle.std.proofs.Common.{◌≡◌, ◌++◌, drop}
use Rattle.hdr_verdict.specs.Groups.{strides_from}
use Rattle.hdr_verdict.proofs.cell.strides_from.Given as goal

abbrev pub invariant-loop-group : goal.invariant-loop-group
invariant-loop-group l = l.strides.items ++ strides_from l.before (drop l.group-index l.groups) ≡ strides_from l.initial.before l.groups
