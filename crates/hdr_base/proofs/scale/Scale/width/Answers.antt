use Rattle.std.proofs.Common.{arith}
use Rattle.hdr_base.specs.Classes.{Resolution}
use Rattle.hdr_base.proofs.ClassesScale.{width-from-shift}
use Rattle.hdr_base.proofs.ClassesIntervals.{width-IsLeast}
use Rattle.hdr_base.proofs.scale.Scale.width.Goals as goal

pub returns-clause-value : goal.returns-clause-value
returns-clause-value c =
    let g : Resolution = record { unit = c.self.inside.unit; digits = c.self.inside.digits } in
    rw (c.bucket.ensures.value, ← c.self.view_is)
    (width-from-shift g c.args.value (omega arith) (omega arith) (omega arith))

pub returns-clause-least : goal.returns-clause-least
returns-clause-least c =
    let g : Resolution = record { unit = c.self.inside.unit; digits = c.self.inside.digits } in
    rw (c.bucket.ensures.value, ← c.self.view_is, width-from-shift g c.args.value (omega arith) (omega arith) (omega arith)) (width-IsLeast g c.args.value)
