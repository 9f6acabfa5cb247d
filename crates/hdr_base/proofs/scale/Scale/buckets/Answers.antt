use Rattle.std.proofs.Common.{◌+◌, arith}
use Rattle.hdr_base.proofs.ClassesScale.{blocks-most}
use Rattle.hdr_base.proofs.scale.Scale.buckets.Goals as goal

pub returns-clause-fits : goal.returns-clause-fits
returns-clause-fits c = blocks-most c.args.self.unit c.args.self.digits (c.bucket.result + 1) (omega (arith, c.bucket.ensures.bound)) (omega (arith, c.bucket.ensures.digits.1))
