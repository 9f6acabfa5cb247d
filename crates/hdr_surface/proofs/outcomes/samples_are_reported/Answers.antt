use Rattle.std.proofs.Common.{subst}
use Rattle.hdr_tool.specs.Program.{Outcome}
use Rattle.hdr_surface.proofs.outcomes.samples_are_reported.Goals as goal

pub returns : goal.returns
returns c = λ report sigfig quantiles input t task to fits.
    let out = c.outcome_exists.ensures report input in
    let r = c.report_stands.ensures report sigfig quantiles input out.0 out.1 t task to fits out.2 in
    (out.0, subst (λ fault. Outcome report input out.0 fault) r.0 out.2, r.1)
