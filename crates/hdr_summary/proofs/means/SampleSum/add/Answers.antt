use Rattle.hdr_model.specs.Plain.{resolution}
use Rattle.hdr_summary.specs.Classes.{known_by}
use Rattle.hdr_summary.proofs.SampleSums.{sum-in-units, sum-joined}
use Rattle.hdr_summary.proofs.means.SampleSum.add.Goals as goal

pub returns : goal.returns
returns c = λ L S has stands. (
    let g = resolution c.args.histogram.now in
    let scaled = sum-in-units c.args.factor g S c.of.result c.in_units-sum.result (c.of.ensures S stands) c.in_units-sum.ensures.total c.in_units-sum.ensures.low c.in_units-sum.ensures.high in
    sum-joined L (known_by c.args.factor g S) c.args.self.now c.in_units-sum.result
    (record { total = c.saturating_add-self.result; low = c.saturating_add-self-2.result; high = c.saturating_add-self-3.result })
    has scaled c.saturating_add-self.ensures c.saturating_add-self-2.ensures c.saturating_add-self-3.ensures
    )
