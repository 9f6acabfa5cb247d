use Rattle.std.proofs.Common.{ap}
use Rattle.hdr_model.specs.Plain.{Plain, empty_plain}
use Rattle.hdr_figures.proofs.sums.Sums.new.Goals as goal

pub returns : goal.returns
unfolding empty_plain
returns c = (ap (λ (h : Plain). h.low) c.in_ok-new.ensures, ap (λ (h : Plain). h.sigfig) c.in_ok-new.ensures)
