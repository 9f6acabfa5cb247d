use Rattle.std.proofs.Common.{arith}
use Rattle.hdr_base.specs.Classes.{Resolution}
use Rattle.hdr_base.proofs.ClassesScale.{index-past, index-value}
use Rattle.hdr_base.proofs.ClassesFiner.{value_of-only}
use Rattle.hdr_base.proofs.scale.Scale.bin_value.Goals as goal

pub returns-then-bucket-self-clause-value : goal.returns-then-bucket-self-clause-value
returns-then-bucket-self-clause-value c =
    let g : Resolution = record { unit = c.self.inside.unit; digits = c.self.inside.digits } in
    rw (← c.self.view_is) (index-past g c.args.index (omega arith) (omega arith) (omega arith) c.saturating_sub-bucket.result c.saturating_sub-bucket.ensures (omega arith))

pub returns-clause-value : goal.returns-clause-value
returns-clause-value c =
    let g : Resolution = record { unit = c.self.inside.unit; digits = c.self.inside.digits } in
    rw (← c.self.view_is) (index-value g c.args.index (omega arith) (omega arith) (omega arith) c.saturating_sub-bucket.result c.saturating_sub-bucket.ensures (omega arith))

pub returns-clause-formula : goal.returns-clause-formula
returns-clause-formula c =
    let g : Resolution = record { unit = c.self.inside.unit; digits = c.self.inside.digits } in
    let is = index-value g c.args.index (omega arith) (omega arith) (omega arith) c.saturating_sub-bucket.result c.saturating_sub-bucket.ensures (omega arith) in
    rw (← c.self.view_is) (value_of-only g c.args.index (omega arith) _ is.0 is.1)
