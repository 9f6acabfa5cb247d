use Rattle.hdr_model.specs.Plain.{resolution}
use Rattle.hdr_summary.specs.Classes.{known_by}
use Rattle.hdr_summary.proofs.CountsByClass.{by-class-joined}
use Rattle.hdr_summary.proofs.classes.ClassCounts.add.Goals as goal

pub returns : goal.returns
returns c = λ b d L S some has stands fit. record {
  most = has.most;
  counts =
      by-class-joined b d L (known_by c.args.factor (resolution c.args.histogram.now) S) c.args.self.now.counts c.counts_of-counts.result c.joined-self.result
      has.counts (c.counts_of-counts.ensures b d S some has.most stands fit)
      c.joined-self.ensures.total c.joined-self.ensures.sure c.joined-self.ensures.perhaps;
}
