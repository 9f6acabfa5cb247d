use Rattle.hdr_tool.proofs.Common.{◌≡◌, ℕ, ◌+◌, ◌++◌, ◌∷◌, Ok, Err, Some, refl, sym, ap, subst, length, arith, ◌∙◌, option_map, enumerate_from, sink, NoMemory, CannotRead, number_lines, lines_run, rest_run, LinesNeed}
use Rattle.hdr_tool.proofs.OutcomesRuns.{cut_short, one_line, call_line, next_line, call_refused, call_passed, needs_up, handed_on}
use Rattle.hdr_tool.proofs.driver.run_lines.Goals as goal

pub returns-in_default-checked_add-clause-goes : goal.returns-in_default-checked_add-clause-goes
returns-in_default-checked_add-clause-goes g c =
    let whole = rest_run c.args.is_log c.args.histogram.now c.args.number (Some c.args.text.now) in
    let onward = rest_run c.args.is_log c.loop-left.histogram c.loop-left.current (option_map (λ t. t.now) c.loop-left.left) in
    cut_short whole onward (g.W.Write.contents (sink c.args.log.now).now) (g.W.Write.contents (sink c.loop-left.log).now) CannotRead refl c.loop-left.invariant.goes

pub returns-in_default-apply-clause-goes : goal.returns-in_default-apply-clause-goes
returns-in_default-apply-clause-goes g c =
    let whole = rest_run c.args.is_log c.args.histogram.now c.args.number (Some c.args.text.now) in
    let onward = rest_run c.args.is_log c.loop-left.histogram c.loop-left.current (option_map (λ t. t.now) c.loop-left.left) in
    cut_short whole onward (g.W.Write.contents (sink c.args.log.now).now) (g.W.Write.contents (sink c.loop-left.log).now) NoMemory refl c.loop-left.invariant.goes

pub returns-in_default-apply-clause-memory : goal.returns-in_default-apply-clause-memory
returns-in_default-apply-clause-memory g c = λ more.
    let line = c.in-Some-value_line.ensures in
    let e = ap (λ o. number_lines c.loop-left.current (option_map (λ t. t.now) o)) c.in-Some.is ∙ ap (enumerate_from c.loop-left.current) line.lines in
    c.loop-left.invariant.memory more (subst (λ l. LinesNeed c.args.is_log c.loop-left.histogram (l ++ more)) (sym e)
    (call_refused c.args.is_log c.loop-left.histogram c.loop-left.current line.line (number_lines (c.loop-left.current + 1) (Some c.in-Some-value_line.after.now) ++ more) c.in-Some-value_line.call _ line.fits c.loop-left.invariant.grows c.in_default-apply.ensures.err.0))

pub loop-left-preserved-in-Some-value_line : goal.loop-left-preserved-in-Some-value_line
loop-left-preserved-in-Some-value_line g c =
    let whole = rest_run c.args.is_log c.args.histogram.now c.args.number (Some c.args.text.now) in
    let left = number_lines c.loop-left.current (option_map (λ t. t.now) c.loop-left.left) in
    let rest = number_lines (c.loop-left.current + 1) (Some c.in-Some-value_line.after.now) in
    let line = c.in-Some-value_line.ensures in
    let next : c.in-Some-checked_add.following ≡ c.loop-left.current + 1 = omega (arith, c.in-Some-checked_add.ensures) in
    let e = ap (λ o. number_lines c.loop-left.current (option_map (λ t. t.now) o)) c.in-Some.is ∙ ap (enumerate_from c.loop-left.current) line.lines in
    let o = g.W.Write.contents (sink c.args.log.now).now in
    let m = g.W.Write.contents (sink c.loop-left.log).now in
    record {
      same = c.loop-left.invariant.same;
      goes = rw next (one_line {A = Unit {0}} c.args.is_log whole c.loop-left.histogram c.apply.new.self left rest (c.loop-left.current, line.line) o m m (Ok tt) c.loop-left.invariant.goes e
          (next_line {A = Unit {0}} (λ more. lines_run c.args.is_log c.loop-left.histogram ((c.loop-left.current, line.line) ∷ more)) (lines_run c.args.is_log c.apply.new.self) m tt
          (λ more. call_line c.args.is_log c.loop-left.histogram c.apply.new.self c.loop-left.current line.line more c.in-Some-value_line.call line.fits c.in-Ok.ensures.ok)));
      memory = rw next (λ more n. c.loop-left.invariant.memory more (subst (λ l. LinesNeed c.args.is_log c.loop-left.histogram (l ++ more)) (sym e)
          (call_passed c.args.is_log c.loop-left.histogram c.apply.new.self c.loop-left.current line.line (number_lines (c.loop-left.current + 1) (Some c.in-Some-value_line.after.now) ++ more) c.in-Some-value_line.call line.fits c.in-Ok.ensures.ok n)));
      grows = c.in-Ok.ensures.same_bounds.2 ∙ c.loop-left.invariant.grows;
      counts = rw next (omega (arith, ap length e, c.loop-left.invariant.counts));
    }

pub returns-in_err-run_line-clause-goes : goal.returns-in_err-run_line-clause-goes
returns-in_err-run_line-clause-goes g c =
    let whole = rest_run c.args.is_log c.args.histogram.now c.args.number (Some c.args.text.now) in
    let o = g.W.Write.contents (sink c.args.log.now).now in
    let m = g.W.Write.contents (sink c.loop-left.log).now in
    let n = g.W.Write.contents (sink c.run_line.new.log).now in
    let left = number_lines c.loop-left.current (option_map (λ t. t.now) c.loop-left.left) in
    let after = number_lines (c.loop-left.current + 1) (option_map (λ t. t.now) c.split_at_first.result.1) in
    let e = ap (λ o. number_lines c.loop-left.current (option_map (λ t. t.now) o)) c.in-Some.is ∙ ap (enumerate_from c.loop-left.current) c.split_at_first.ensures.parts in
    rw (handed_on c.from_residual.result c.in_err-run_line.field-0.0 c.from_residual.ensures.1)
    (one_line {A = Unit {0}} c.args.is_log whole c.loop-left.histogram c.run_line.new.histogram left after (c.loop-left.current, c.split_at_first.result.0.now)
    o m n (Err c.in_err-run_line.field-0.0) c.loop-left.invariant.goes e c.in_err-run_line.ensures.goes)

pub returns-in_err-run_line-clause-memory : goal.returns-in_err-run_line-clause-memory
returns-in_err-run_line-clause-memory g c =
    let e = ap (λ o. number_lines c.loop-left.current (option_map (λ t. t.now) o)) c.in-Some.is ∙ ap (enumerate_from c.loop-left.current) c.split_at_first.ensures.parts in
    rw (handed_on c.from_residual.result c.in_err-run_line.field-0.0 c.from_residual.ensures.1)
    (needs_up (Unit {0}) ℕ (λ more. LinesNeed c.args.is_log c.args.histogram.now (number_lines c.args.number (Some c.args.text.now) ++ more)) (λ more. LinesNeed c.args.is_log c.loop-left.histogram ((c.loop-left.current, c.split_at_first.result.0.now) ∷ more)) (LinesNeed c.args.is_log c.run_line.new.histogram) (LinesNeed c.args.is_log c.run_line.new.histogram)
    (λ more. number_lines (c.loop-left.current + 1) (option_map (λ t. t.now) c.split_at_first.result.1) ++ more) c.in_err-run_line.field-0.0
    (λ more n. c.loop-left.invariant.memory more (subst (λ l. LinesNeed c.args.is_log c.loop-left.histogram (l ++ more)) (sym e) n)) c.in_err-run_line.ensures.memory)

pub loop-left-preserved : goal.loop-left-preserved
loop-left-preserved g c =
    let whole = rest_run c.args.is_log c.args.histogram.now c.args.number (Some c.args.text.now) in
    let o = g.W.Write.contents (sink c.args.log.now).now in
    let m = g.W.Write.contents (sink c.loop-left.log).now in
    let n = g.W.Write.contents (sink c.run_line.new.log).now in
    let left = number_lines c.loop-left.current (option_map (λ t. t.now) c.loop-left.left) in
    let after = number_lines (c.loop-left.current + 1) (option_map (λ t. t.now) c.split_at_first.result.1) in
    let next : c.in-Some-checked_add.following ≡ c.loop-left.current + 1 = omega (arith, c.in-Some-checked_add.ensures) in
    let e = ap (λ o. number_lines c.loop-left.current (option_map (λ t. t.now) o)) c.in-Some.is ∙ ap (enumerate_from c.loop-left.current) c.split_at_first.ensures.parts in
    record {
      same = record {
        writer = c.in_ok-run_line.ensures.same_log.writer ∙ c.loop-left.invariant.same.writer;
        serializer = c.in_ok-run_line.ensures.same_log.serializer ∙ c.loop-left.invariant.same.serializer;
        divisor = c.in_ok-run_line.ensures.same_log.divisor ∙ c.loop-left.invariant.same.divisor;
      };
      goes = rw next (one_line {A = Unit {0}} c.args.is_log whole c.loop-left.histogram c.run_line.new.histogram left after (c.loop-left.current, c.split_at_first.result.0.now)
          o m n (Ok tt) c.loop-left.invariant.goes e c.in_ok-run_line.ensures.goes);
      memory = rw next (λ more n. c.loop-left.invariant.memory more (subst (λ l. LinesNeed c.args.is_log c.loop-left.histogram (l ++ more)) (sym e)
          (c.in_ok-run_line.ensures.memory (number_lines (c.loop-left.current + 1) (option_map (λ t. t.now) c.split_at_first.result.1) ++ more) n)));
      grows = c.in_ok-run_line.ensures.grows;
      counts = rw next (omega (arith, ap length e, c.loop-left.invariant.counts));
    }
