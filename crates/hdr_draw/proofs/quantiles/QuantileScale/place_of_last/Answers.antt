use Rattle.hdr_draw.proofs.Doubled.{last_place}
use Rattle.hdr_draw.proofs.quantiles.QuantileScale.place_of_last.Goals as goal

pub returns-clause-place : goal.returns-clause-place
returns-clause-place c =
    rw (← c.self.view_is) (last_place c.self.inside.axis c.args.width c.args.samples c.logarithm.result c.place.result c.logarithm.ensures.is c.place.ensures.place)
