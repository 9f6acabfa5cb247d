use Rattle.hdr_tool.proofs.Common.{ℕ, List, rules, take, Ok, Err, ◌∙◌, ap, sym, subst, arith, refl, sink, cause_of, NoMemory, CannotRead, ◌++◌, ◌∷◌}
use Rattle.hdr_tool.proofs.OutcomesRuns.{handed_on, Streamed, started, carried, passed, stopped, finish, unread_rest, read_to, read_all}
use Rattle.hdr_tool.proofs.driver.run_input.Goals as goal

pub loop-init : goal.loop-init
loop-init g c = record {
  room = c.requires.nonempty;
  grows = c.requires.grows;
  same = record { writer = refl; serializer = refl; divisor = refl };
  streamed = started c.args.is_log c.args.histogram (g.R.Read.remaining c.args.reader.now) (g.W.Write.contents (sink c.args.log.now).now) c.new-carry.result.items (search rules);
}

pub returns-in_err-count-clause-runs : goal.returns-in_err-count-clause-runs
returns-in_err-count-clause-runs g c =
    rw (handed_on c.from_residual.result c.in_err-count.field-0.0 c.from_residual.ensures.1) (unread_rest c.loop.invariant.streamed c.in_err-count.field-0.0 (ap cause_of c.in_err-count.ensures.err))

pub returns-in_err-count-clause-reads : goal.returns-in_err-count-clause-reads
returns-in_err-count-clause-reads g c =
    rw (handed_on c.from_residual.result c.in_err-count.field-0.0 c.from_residual.ensures.1) (read_to (g.R.Read.remaining c.read_piece.new.reader) c.in_err-count.field-0.0 (ap cause_of c.in_err-count.ensures.err))

pub returns-in_err-run_lines-clause-runs : goal.returns-in_err-run_lines-clause-runs
returns-in_err-run_lines-clause-runs g c =
    rw (handed_on c.from_residual-in_err-run_lines.result c.in_err-run_lines.field-0.0 c.from_residual-in_err-run_lines.ensures.1)
    (finish c.loop.invariant.streamed {A = ℕ} (Err c.in_err-run_lines.field-0.0) c.run_lines.new.histogram c.deref.result.now (g.R.Read.remaining c.read_piece.new.reader) (g.W.Write.contents (sink c.run_lines.new.log).now) c.in_ok-count.count c.read_piece.new.piece
    c.deref.ensures.value c.in_ok-count.ensures.ok c.if-count-eq0.true (c.in_ok-count.ensures.end c.if-count-eq0.true c.loop.invariant.room) c.in_err-run_lines.ensures.goes)

pub returns-in_err-run_lines-clause-reads : goal.returns-in_err-run_lines-clause-reads
returns-in_err-run_lines-clause-reads g c =
    rw (handed_on c.from_residual-in_err-run_lines.result c.in_err-run_lines.field-0.0 c.from_residual-in_err-run_lines.ensures.1) (read_all (g.R.Read.remaining c.read_piece.new.reader) c.in_err-run_lines.field-0.0 (c.in_ok-count.ensures.end c.if-count-eq0.true c.loop.invariant.room))

pub returns-then-count-eq0-clause-runs : goal.returns-then-count-eq0-clause-runs
returns-then-count-eq0-clause-runs g c =
    finish c.loop.invariant.streamed {A = ℕ} (Ok c.in_ok-run_lines.field-0) c.run_lines.new.histogram c.deref.result.now (g.R.Read.remaining c.read_piece.new.reader) (g.W.Write.contents (sink c.run_lines.new.log).now) c.in_ok-count.count c.read_piece.new.piece
    c.deref.ensures.value c.in_ok-count.ensures.ok c.if-count-eq0.true (c.in_ok-count.ensures.end c.if-count-eq0.true c.loop.invariant.room) c.in_ok-run_lines.ensures.goes

pub returns-then-count-eq0-clause-reads : goal.returns-then-count-eq0-clause-reads
returns-then-count-eq0-clause-reads g c = c.in_ok-count.ensures.end c.if-count-eq0.true c.loop.invariant.room

pub returns-in_err-tail-clause-runs : goal.returns-in_err-tail-clause-runs
returns-in_err-tail-clause-runs g c = rw (handed_on c.from_residual-in_err-tail.result NoMemory c.from_residual-in_err-tail.ensures.1) (unread_rest c.loop.invariant.streamed NoMemory refl)

pub loop-preserved-in_default : goal.loop-preserved-in_default
loop-preserved-in_default g c =
    record {
      grows = c.loop.invariant.grows;
      room = omega (arith, c.read_piece.auto.piece, c.loop.invariant.room);
      same = c.loop.invariant.same;
      streamed = carried c.loop.invariant.streamed (g.R.Read.remaining c.read_piece.new.reader) (take c.in_ok-count.count c.read_piece.new.piece) c.take_lines.new.text.items c.in_ok-count.ensures.ok (rw c.in_default.is at c.in_ok-tail.ensures.parts);
    }

pub returns-in-Err-clause-runs : goal.returns-in-Err-clause-runs
returns-in-Err-clause-runs g c =
    stopped c.loop.invariant.streamed (g.R.Read.remaining c.read_piece.new.reader) (g.W.Write.contents (sink c.run_lines-in-loop.new.log).now) (take c.in_ok-count.count c.read_piece.new.piece) c.deref-in-loop.result.now c.in-Some.tail.now c.in_ok-count.ensures.ok
    (rw c.in-Some.is at c.in_ok-tail.ensures.parts ∙ ap (λ t. t ++ 10 ∷ c.in-Some.tail.now) (sym c.deref-in-loop.ensures.value)) c.in-Err.fault c.fault_after_rest.result c.run_lines-in-loop.new.histogram c.fault_after_rest.ensures.fault c.in-Err.ensures.goes

pub returns-in_err-replace-clause-runs : goal.returns-in_err-replace-clause-runs
returns-in_err-replace-clause-runs g c =
    rw (handed_on c.from_residual-in_err-replace.result NoMemory c.from_residual-in_err-replace.ensures.1)
    (unread_rest
    (passed c.loop.invariant.streamed (g.R.Read.remaining c.read_piece.new.reader) (g.W.Write.contents (sink c.run_lines-in-loop.new.log).now) (take c.in_ok-count.count c.read_piece.new.piece) c.deref-in-loop.result.now c.in-Some.tail.now c.in_ok-count.ensures.ok
    (rw c.in-Some.is at c.in_ok-tail.ensures.parts ∙ ap (λ t. t ++ 10 ∷ c.in-Some.tail.now) (sym c.deref-in-loop.ensures.value)) c.run_lines-in-loop.new.histogram c.in-Ok.next c.in-Ok.ensures.next c.in-Ok.ensures.goes) NoMemory refl)

pub loop-preserved : goal.loop-preserved
loop-preserved g c =
    let S : List ℕ → Type 0 = λ x. Streamed c.args.is_log c.args.histogram c.run_lines-in-loop.new.histogram c.in-Ok.next x (g.R.Read.remaining c.args.reader.now) (g.R.Read.remaining c.read_piece.new.reader) (g.W.Write.contents (sink c.args.log.now).now) (g.W.Write.contents (sink c.run_lines-in-loop.new.log).now) in
    record {
      grows = c.run_lines-in-loop.ensures.grows;
      room = omega (arith, c.read_piece.auto.piece, c.loop.invariant.room);
      same = record {
        writer = c.run_lines-in-loop.ensures.same_log.writer ∙ c.loop.invariant.same.writer;
        serializer = c.run_lines-in-loop.ensures.same_log.serializer ∙ c.loop.invariant.same.serializer;
        divisor = c.run_lines-in-loop.ensures.same_log.divisor ∙ c.loop.invariant.same.divisor;
      };
      streamed = subst S (sym c.in_ok-replace.ensures)
          (passed c.loop.invariant.streamed (g.R.Read.remaining c.read_piece.new.reader) (g.W.Write.contents (sink c.run_lines-in-loop.new.log).now) (take c.in_ok-count.count c.read_piece.new.piece) c.deref-in-loop.result.now c.in-Some.tail.now c.in_ok-count.ensures.ok
          (rw c.in-Some.is at c.in_ok-tail.ensures.parts ∙ ap (λ t. t ++ 10 ∷ c.in-Some.tail.now) (sym c.deref-in-loop.ensures.value)) c.run_lines-in-loop.new.histogram c.in-Ok.next c.in-Ok.ensures.next c.in-Ok.ensures.goes);
    }

pub returns-clause-runs : goal.returns-clause-runs
returns-clause-runs g c = unread_rest c.loop.invariant.streamed CannotRead refl
