use Rattle.hdr_tool.proofs.Common.{Result, subst, ◌∙◌, view_of_task, Writes, outputs_of, Fault}
use Rattle.hdr_tool.proofs.program.run.Goals as goal

pub returns-clause-usage : goal.returns-clause-usage
returns-clause-usage g c =
    let a = c.run_task.ensures.output in
    let W : Result (Unit {0}) Fault → Type 0 = λ r. Writes (outputs_of (view_of_task c.in-Some.task) a.0) (g.W.Write.contents c.args.writer.now) (g.W.Write.contents c.run_task.new.writer) r in
    (λ e. absurd (subst W e a.2), λ e. absurd (let f = c.in-Some.ensures ∙ e in cc))
