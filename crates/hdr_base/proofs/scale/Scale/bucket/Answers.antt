use Rattle.std.proofs.Common.{arith}
use Rattle.hdr_base.specs.Classes.{Resolution}
use Rattle.hdr_base.proofs.ClassesScale.{bucket-code, bucket-bound}
use Rattle.hdr_base.proofs.ClassesIntervals.{bucket-IsLeast}
use Rattle.hdr_base.proofs.scale.Scale.bucket.Goals as goal

pub returns-clause-value : goal.returns-clause-value
returns-clause-value c =
    rw (← c.self.view_is) (bucket-code (record { unit = c.self.inside.unit; digits = c.self.inside.digits }) c.args.value (omega arith) (omega arith))

pub returns-clause-bound : goal.returns-clause-bound
returns-clause-bound c =
    let g : Resolution = record { unit = c.self.inside.unit; digits = c.self.inside.digits } in
    rw (← c.self.view_is) (omega (arith, bucket-code g c.args.value (omega arith) (omega arith), bucket-bound g c.args.value (omega arith) (omega arith)))

pub returns-clause-least : goal.returns-clause-least
returns-clause-least c =
    let g : Resolution = record { unit = c.self.inside.unit; digits = c.self.inside.digits } in
    rw (bucket-code g c.args.value (omega arith) (omega arith), ← c.self.view_is) (bucket-IsLeast g c.args.value)
