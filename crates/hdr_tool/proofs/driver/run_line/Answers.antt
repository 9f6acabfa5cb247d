use Rattle.hdr_tool.proofs.Common.{ℕ, List, ◌∷◌, Some, refl, sym, ap, ◌∙◌, true, option_map, Plain, tag_text, sink, NoMemory, End, Run, run_command, lines_run, LinesNeed}
use Rattle.hdr_tool.proofs.OutcomesRuns.{and_then, command_line, call_line, short, next_line, no_command, other_line, command_needs, call_refused, call_passed, by_need, keeps}
use Rattle.hdr_tool.proofs.driver.run_line.Goals as goal

pub returns-in-Ok-clause-goes : goal.returns-in-Ok-clause-goes
returns-in-Ok-clause-goes g c =
    next_line {A = Unit {0}} (λ more. lines_run c.args.is_log c.args.histogram.now ((c.args.number, c.args.line.now) ∷ more)) (lines_run c.args.is_log c.apply.new.self) (g.W.Write.contents (sink c.args.log.now).now) tt
    (λ more. call_line c.args.is_log c.args.histogram.now c.apply.new.self c.args.number c.args.line.now more c.in-Some-Apply.call (sym (rw c.in-Some-Apply.field-0-is at c.in-Some-Apply.ensures)) c.in-Ok.ensures.ok)

pub returns-in-Err-clause-goes : goal.returns-in-Err-clause-goes
returns-in-Err-clause-goes g c =
    short (λ more. lines_run c.args.is_log c.args.histogram.now ((c.args.number, c.args.line.now) ∷ more)) (g.W.Write.contents (sink c.args.log.now).now) (g.W.Write.contents (sink c.args.log.now).now) NoMemory refl (keeps (g.W.Write.contents (sink c.args.log.now).now))

pub returns-in-Some-End-clause-goes : goal.returns-in-Some-End-clause-goes
returns-in-Some-End-clause-goes g c =
    let whole : List (ℕ × List ℕ) → Run = λ more. lines_run c.args.is_log c.args.histogram.now ((c.args.number, c.args.line.now) ∷ more) in
    let command = End c.in-Some-End.start c.in-Some-End.duration (option_map tag_text c.in-Some-End.tag) in
    let o = g.W.Write.contents (sink c.args.log.now).now in
    and_then whole (run_command true c.args.number c.args.histogram.now (Some command)) (λ (onward : Plain → Run). onward c.end.new.histogram) (λ more k. lines_run c.args.is_log k more) o o (g.W.Write.contents (sink c.end.new.log).now)
    (next_line {A = Unit {0}} whole (λ more. run_command true c.args.number c.args.histogram.now (Some command) (λ k. lines_run c.args.is_log k more)) o tt
    (λ more. command_line c.args.is_log c.args.histogram.now c.args.number c.args.line.now more command (sym (rw c.in-Some-End.field-0-is at c.in-Some-End.ensures))
    ∙ ap (λ b. run_command b c.args.number c.args.histogram.now (Some command) (λ k. lines_run c.args.is_log k more)) c.if-is_log.true))
    c.end.result c.end.ensures.goes

pub returns-in_default-clause-goes : goal.returns-in_default-clause-goes
returns-in_default-clause-goes g c =
    let command = End c.in-Some-End.start c.in-Some-End.duration (option_map tag_text c.in-Some-End.tag) in
    no_command (λ more. lines_run c.args.is_log c.args.histogram.now ((c.args.number, c.args.line.now) ∷ more)) c.args.number (g.W.Write.contents (sink c.args.log.now).now)
    (λ more. command_line c.args.is_log c.args.histogram.now c.args.number c.args.line.now more command (sym (rw c.in-Some-End.field-0-is at c.in-Some-End.ensures))
    ∙ ap (λ b. run_command b c.args.number c.args.histogram.now (Some command) (λ k. lines_run c.args.is_log k more)) c.if-is_log.false)

pub returns-in-Ok-clause-memory : goal.returns-in-Ok-clause-memory
returns-in-Ok-clause-memory g c = λ more n.
    call_passed c.args.is_log c.args.histogram.now c.apply.new.self c.args.number c.args.line.now more c.in-Some-Apply.call (sym (rw c.in-Some-Apply.field-0-is at c.in-Some-Apply.ensures)) c.in-Ok.ensures.ok n

pub returns-in-Err-clause-memory : goal.returns-in-Err-clause-memory
returns-in-Err-clause-memory g c = λ more.
    call_refused c.args.is_log c.args.histogram.now c.args.number c.args.line.now more c.in-Some-Apply.call _ (sym (rw c.in-Some-Apply.field-0-is at c.in-Some-Apply.ensures)) c.requires.grows c.in-Err.ensures.err.0

pub returns-in-Some-End-clause-memory : goal.returns-in-Some-End-clause-memory
returns-in-Some-End-clause-memory g c =
    let command = End c.in-Some-End.start c.in-Some-End.duration (option_map tag_text c.in-Some-End.tag) in
    by_need (λ more. LinesNeed c.args.is_log c.args.histogram.now ((c.args.number, c.args.line.now) ∷ more)) (LinesNeed c.args.is_log c.end.new.histogram) c.end.result
    (λ more. command_needs c.args.is_log c.args.histogram.now c.args.number c.args.line.now more command (sym (rw c.in-Some-End.field-0-is at c.in-Some-End.ensures)) (rw c.if-is_log.true tt))

pub returns-in_default-2-clause-goes : goal.returns-in_default-2-clause-goes
returns-in_default-2-clause-goes g c =
    no_command (λ more. lines_run c.args.is_log c.args.histogram.now ((c.args.number, c.args.line.now) ∷ more)) c.args.number (g.W.Write.contents (sink c.args.log.now).now)
    (λ more. other_line c.args.is_log c.args.histogram.now c.args.number c.args.line.now more (sym c.if-is_empty.ensures) (sym (rw c.in_default.is at c.parse.ensures)))
