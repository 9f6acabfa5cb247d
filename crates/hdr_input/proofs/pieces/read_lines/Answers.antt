use Rattle.std.proofs.Common.{◌≡◌, ◌<◌, ◌≤◌, ◌++◌, ℕ, List, [], vec_len, take, refl, arith, eq-eqb, eqb-true, ◌==◌, ◌∙◌}
use Rattle.std.proofs.lemmas.Bool.{false_from_ne_true}
use Rattle.std.proofs.lemmas.List.{length-take-le}
use Rattle.std.proofs.KnownBytes.{Consumes-nil}
use Rattle.hdr_input.proofs.Joined.{all_read, both_complete, below_end, lines_complete, piece_taken, last_taken}
use Rattle.hdr_input.proofs.pieces.read_lines.Goals as goal

pub loop-init : goal.loop-init
loop-init g c = record {
  within = omega arith;
  some = omega (arith, c.in_ok-buffer.ensures.len);
  read = ([], Consumes-nil (g.R.Read.remaining c.args.reader), tt, g.met.S.LineSink.takes_none 1 c.args.sink.now);
}

pub returns-then-end-held : goal.returns-then-end-held
returns-then-end-held g c =
    let start = g.R.Read.remaining c.args.reader in
    let before = g.R.Read.remaining c.loop.reader.reader in
    let after = g.R.Read.remaining c.read_behind.new.reader.reader in
    let done = c.loop.invariant.read in
    let held = c.loop.held in
    let end = c.in_ok-end.end in
    let complete = c.complete_len-complete.result in
    let lines = c.deref-in-loop-2.result.now in
    let items = c.read_behind.new.buffer.items in
    let some : held < vec_len c.loop.buffer = omega (arith, c.if-held-len.false, c.len.ensures) in
    let whole : complete ≡ end = c.complete_len-complete.ensures.last (eq-eqb end held c.if-end-held.true)
    ∙ length-take-le end c.deref-in-loop.result.now (omega (arith, c.deref-in-loop.ensures.len, c.in_ok-end.ensures.bound.1)) in
    let taken = last_taken start before after done.0 c.loop.buffer.items items lines held end complete c.deref-in-loop-2.ensures.value whole
    done.1 c.in_ok-end.ensures.bytes in
    let text : List ℕ = done.0 ++ take complete lines in (
      text,
      c.in_ok-line.line,
      all_read start after text (λ all. text ≡ all) taken (c.in_ok-end.ensures.end c.if-end-held.true some) refl,
      g.met.S.LineSink.takes_more 1 c.loop.line c.in_ok-line.line done.0 (take complete lines) c.args.sink.now c.loop.sink c.take_lines.new.self done.2 done.3 c.in_ok-line.ensures.taken,
    )

pub loop-preserved : goal.loop-preserved
loop-preserved g c =
    let start = g.R.Read.remaining c.args.reader in
    let before = g.R.Read.remaining c.loop.reader.reader in
    let after = g.R.Read.remaining c.read_behind.new.reader.reader in
    let done = c.loop.invariant.read in
    let held = c.loop.held in
    let end = c.in_ok-end.end in
    let complete = c.complete_len-complete.result in
    let lines = c.deref-in-loop-2.result.now in
    let items = c.read_behind.new.buffer.items in
    let some : held < vec_len c.loop.buffer = omega (arith, c.if-held-len.false, c.len.ensures) in
    let low : complete ≤ end = below_end c.deref-in-loop.result.now end complete c.complete_len-complete.ensures.bound in
    let ends = lines_complete items c.deref-in-loop.result.now lines end complete c.deref-in-loop.ensures.value c.deref-in-loop-2.ensures.value low
    (c.complete_len-complete.ensures.complete (false_from_ne_true (end == held) (λ e. c.if-end-held.false (eqb-true end held e)))) in
    let taken = piece_taken start before after done.0 c.loop.buffer.items items lines c.keep_rest.new.buffer.items held end complete c.deref-in-loop-2.ensures.value low
    done.1 c.in_ok-end.ensures.bytes c.keep_rest.ensures.rest in
    record {
      within = omega (arith, c.keep_rest.ensures.len, c.in_ok-end.ensures.bound.1);
      some = omega (arith, some, c.keep_rest.ensures.len, c.in_ok-end.ensures.len);
      read = (
        done.0 ++ take complete lines,
        taken,
        both_complete done.0 (take complete lines) done.2 ends,
        g.met.S.LineSink.takes_more 1 c.loop.line c.in_ok-line.line done.0 (take complete lines) c.args.sink.now c.loop.sink c.take_lines.new.self done.2 done.3 c.in_ok-line.ensures.taken,
      );
    }
