use Rattle.hdr_tool.proofs.Common.{Some, ap, sym, ◌∙◌, true, Plain, sink, NoMemory, number_lines, lines_run, input_run, RunsAll}
use Rattle.hdr_model.specs.Plain.{empty_plain}
use Rattle.hdr_tool.proofs.OutcomesRuns.{unstarted, handed_on, moved}
use Rattle.hdr_tool.proofs.driver.drive.Goals as goal

pub returns-in_default-clause-runs : goal.returns-in_default-clause-runs
returns-in_default-clause-runs g c = unstarted (input_run c.args.is_log c.args.sigfig) (g.R.Read.remaining c.args.reader.now) (g.W.Write.contents c.args.writer.now)

pub returns-in_err-piece-clause-runs : goal.returns-in_err-piece-clause-runs
returns-in_err-piece-clause-runs g c =
    rw (handed_on c.from_residual.result NoMemory c.from_residual.ensures.1) (unstarted (input_run c.args.is_log c.args.sigfig) (g.R.Read.remaining c.args.reader.now) (g.W.Write.contents c.args.writer.now))

pub returns-clause-runs : goal.returns-clause-runs
returns-clause-runs g c =
    let a = c.run_input.ensures.runs in (
      a.0,
      a.1,
      moved (λ h o n. RunsAll (lines_run c.args.is_log h (number_lines 1 (Some a.0))) o n c.run_input.result) c.in-Ok.histogram (empty_plain 1 2 c.args.sigfig true) (g.W.Write.contents (sink c.new-log.result).now) (g.W.Write.contents c.args.writer.now) (g.W.Write.contents (sink c.run_input.new.log).now) _
          c.in-Ok.ensures.made.0 (ap g.W.Write.contents c.new-log.ensures.holds) (ap g.W.Write.contents (sym (c.writer-1.given.1 (sym (c.run_input.ensures.same_log.writer ∙ c.new-log.ensures.writer)) ∙ c.drop-log.ensures.writer))) a.2,
    )

pub run_input-requires-clause-grows : goal.run_input-requires-clause-grows
unfolding empty_plain
run_input-requires-clause-grows g c = ap (λ (h : Plain). h.auto_resize) c.in-Ok.ensures.made.0
