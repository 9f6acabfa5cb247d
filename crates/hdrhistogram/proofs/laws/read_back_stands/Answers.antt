use Rattle.std.proofs.Common.{arith}
use Rattle.hdrhistogram.proofs.V2ReadStands.{same_classes, read_plain, read_stands, read_answers}
use Rattle.hdrhistogram.proofs.laws.read_back_stands.Goals as goal

pub returns : goal.returns
returns c = record {
  plain = read_plain;
  classes = same_classes;
  samples = λ greatest h k S p r s. read_stands h k S r s (c.samples_are_counted.ensures greatest h S p s) (omega (arith, s.total, p.total_fits));
  quantiles = λ greatest h k S p r s. read_answers h k S r s (read_stands h k S r s (c.samples_are_counted.ensures greatest h S p s) (omega (arith, s.total, p.total_fits)));
}
