use Rattle.hdr_tool.proofs.LogMergesWritten.{CallsStand}
use Rattle.hdr_tool.proofs.ReportsStand.{report_stands}
use Rattle.hdr_tool.proofs.laws.report_stands.Goals as goal

pub returns : goal.returns
returns c =
    let calls : CallsStand = record { same_bounds = c.calls_stand.ensures.same_bounds; plain = c.calls_stand.ensures.plain; classes = c.calls_stand.ensures.classes; wherever = c.calls_stand.ensures.wherever } in
    report_stands c.new_is_plain.ensures calls (λ n. c.clearing_stands.ensures.made 1 2 n _) c.quantile_is_ranked.ensures
