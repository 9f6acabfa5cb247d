use Rattle.hdr_tool.proofs.Common.{refl, map, string_bytes, ◌∙◌, filter_map, fraction_of, view_of_task, NoMemory}
use Rattle.hdr_tool.proofs.OutcomesAnswers.{unread, report_failed, report_reads, report_written}
use Rattle.hdr_tool.proofs.OutcomesRuns.{handed_on}
use Rattle.hdr_tool.proofs.program.run_task.Goals as goal

pub returns-in_err-quantiles-in-Report-clause-output : goal.returns-in_err-quantiles-in-Report-clause-output
returns-in_err-quantiles-in-Report-clause-output g c =
    rw (handed_on c.from_residual.result NoMemory c.from_residual.ensures.1) (unread (view_of_task c.args.task.now) (g.R.Read.remaining c.args.reader.now) (g.W.Write.contents c.args.writer.now) NoMemory refl)

pub returns-in_err-quantiles-in-Merge-clause-output : goal.returns-in_err-quantiles-in-Merge-clause-output
returns-in_err-quantiles-in-Merge-clause-output g c =
    rw (handed_on c.from_residual-in_err-quantiles-in-Merge.result NoMemory c.from_residual-in_err-quantiles-in-Merge.ensures.1) (unread (view_of_task c.args.task.now) (g.R.Read.remaining c.args.reader.now) (g.W.Write.contents c.args.writer.now) NoMemory refl)

pub returns-in_err-histogram-in-Report-clause-output : goal.returns-in_err-histogram-in-Report-clause-output
returns-in_err-histogram-in-Report-clause-output g c =
    let a = c.in_err-histogram-in-Report.ensures.runs in
    let f = c.in_err-histogram-in-Report.field-0.0 in
    rw (c.in-Report.is, handed_on c.from_residual-in_err-histogram-in-Report.result f c.from_residual-in_err-histogram-in-Report.ensures.1)
    (a.0, a.1, report_failed c.in-Report.sigfig (filter_map fraction_of (map string_bytes c.in-Report.arguments.now)) a.0 _ _ f a.2)

pub returns-in_err-histogram-in-Report-clause-reads : goal.returns-in_err-histogram-in-Report-clause-reads
returns-in_err-histogram-in-Report-clause-reads g c =
    let a = c.in_err-histogram-in-Report.ensures.runs in
    let f = c.in_err-histogram-in-Report.field-0.0 in
    rw (c.in-Report.is, handed_on c.from_residual-in_err-histogram-in-Report.result f c.from_residual-in_err-histogram-in-Report.ensures.1)
    (report_reads c.in-Report.sigfig (filter_map fraction_of (map string_bytes c.in-Report.arguments.now)) a.0 _ _ f _ a.2 c.in_err-histogram-in-Report.ensures.reads)

pub returns-in_ok-histogram-in-Report-clause-output : goal.returns-in_ok-histogram-in-Report-clause-output
returns-in_ok-histogram-in-Report-clause-output g c =
    let a = c.in_ok-histogram-in-Report.ensures.runs in
    let written = rw (c.deref.ensures.value ∙ c.in_ok-quantiles-in-Report.ensures) at c.write_report.ensures in
    rw c.in-Report.is (a.0, a.1, report_written c.in-Report.sigfig (filter_map fraction_of (map string_bytes c.in-Report.arguments.now)) a.0 _ _ c.in_ok-histogram-in-Report.histogram _ c.write_report.result a.2 written)

pub returns-in_err-drive-in-Log-clause-output : goal.returns-in_err-drive-in-Log-clause-output
returns-in_err-drive-in-Log-clause-output g c =
    let a = c.in_err-drive-in-Log.ensures.runs in
    rw (c.in-Log.is, handed_on c.from_residual-in_err-drive-in-Log.result c.in_err-drive-in-Log.field-0.0 c.from_residual-in_err-drive-in-Log.ensures.1) (a.0, a.1, a.2.0)

pub returns-in_ok-drive-in-Log-clause-output : goal.returns-in_ok-drive-in-Log-clause-output
returns-in_ok-drive-in-Log-clause-output g c = let a = c.in_ok-drive-in-Log.ensures.runs in rw c.in-Log.is (a.0, a.1, a.2.0)

pub returns-in_err-input-in-Merge-clause-output : goal.returns-in_err-input-in-Merge-clause-output
returns-in_err-input-in-Merge-clause-output g c =
    rw (handed_on c.from_residual-in_err-input-in-Merge.result c.in_err-input-in-Merge.field-0.0 c.from_residual-in_err-input-in-Merge.ensures.1)
    (unread (view_of_task c.args.task.now) (g.R.Read.remaining c.args.reader.now) (g.W.Write.contents c.args.writer.now) c.in_err-input-in-Merge.field-0.0 c.in_err-input-in-Merge.ensures.err)
