use Rattle.std.proofs.Common.{None}
use Rattle.hdr_surface.proofs.outcomes.lines_are_reported.Goals as goal

pub returns : goal.returns
returns c = λ report sigfig quantiles input text task out.
    let t = c.report_records.ensures report sigfig quantiles input text task out in
    (t.0, t.1, λ fits. (c.report_stands.ensures report sigfig quantiles input text None t.0 task t.1 fits out).1)
