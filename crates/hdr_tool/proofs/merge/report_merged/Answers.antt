use Rattle.hdr_tool.proofs.Common.{view_of_filter}
use Rattle.hdr_tool.proofs.OutcomesAnswers.{merge_refused}
use Rattle.hdr_tool.proofs.merge.report_merged.Goals as goal

pub returns-in-Err : goal.returns-in-Err
returns-in-Err g c =
    rw c.merge_fault.ensures (merge_refused g.T.Counter.greatest (view_of_filter c.args.filter.now) c.args.sigfig c.args.quantiles.now c.args.input.now _ c.in-Err.error c.in-Err.ensures.err)
