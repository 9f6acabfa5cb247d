use Rattle.std.proofs.Common.{ap, ◌∙◌}
use Rattle.hdr_draw.specs.Scales.{along}
use Rattle.hdr_draw.proofs.values.ValueScale.place.Goals as goal

pub returns-clause-place : goal.returns-clause-place
returns-clause-place c =
    let i = c.self.invariant in
    let from = c.self.inside.axis.from in
    rw (← c.self.view_is) (record {
      from = from;
      to = i.3.0;
      logarithm = c.logarithm.result;
      of_low = i.2;
      of_high = i.3.1;
      of_value = c.logarithm.ensures.is;
      is = c.place.ensures.place ∙ ap (λ s. along (record { from = from; span = s }) c.args.height c.logarithm.result) i.3.2;
    })
