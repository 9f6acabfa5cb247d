use Rattle.std.proofs.Common.{arith}
use Rattle.hdr_base.specs.Classes.{Resolution, reach_of}
use Rattle.hdr_base.proofs.ClassesLaws.{bucket-end}
use Rattle.hdr_base.proofs.ClassesScale.{ones-shifted, bucket-bound}
use Rattle.hdr_base.proofs.ClassesIntervals.{reach-IsLeast}
use Rattle.hdr_base.proofs.scale.Scale.reach.Goals as goal

pub returns-clause-value : goal.returns-clause-value
unfolding reach_of
returns-clause-value c =
    let g : Resolution = record { unit = c.self.inside.unit; digits = c.self.inside.digits } in
    rw (c.bucket.ensures.value, ← c.self.view_is) (ones-shifted _ (bucket-bound g c.args.value (omega arith) (omega arith)))

pub returns-clause-at_least : goal.returns-clause-at_least
returns-clause-at_least c =
    let g : Resolution = record { unit = c.self.inside.unit; digits = c.self.inside.digits } in
    rw (c.bucket.ensures.value, ← c.self.view_is) (omega (arith, bucket-end g c.args.value, ones-shifted _ (bucket-bound g c.args.value (omega arith) (omega arith))))

pub returns-clause-least : goal.returns-clause-least
unfolding reach_of
returns-clause-least c =
    let g : Resolution = record { unit = c.self.inside.unit; digits = c.self.inside.digits } in
    rw (c.bucket.ensures.value, ← c.self.view_is, ones-shifted _ (bucket-bound g c.args.value (omega arith) (omega arith))) (reach-IsLeast g c.args.value)
