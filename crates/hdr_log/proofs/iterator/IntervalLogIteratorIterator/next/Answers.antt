use Rattle.std.proofs.Common.{rules, ◌≡◌, ℕ, ◌+◌, ◌<◌, length, arith, sym, ap, false, ◌==◌, [], ◌∷◌, Ok, Err}
use Rattle.std.proofs.lemmas.Bool.{eqb-true}
use Rattle.hdr_log.specs.Parts.{parts}
use Rattle.hdr_log.specs.Grammar.{readings}
use Rattle.hdr_log.specs.Reading.{view_of_entry}
use Rattle.hdr_log.proofs.GrammarSteps.{gives_entry, gives_next, gives_error, gives_end, gives_last_error}
use Rattle.hdr_log.proofs.iterator.IntervalLogIteratorIterator.next.Goals as goal

above : (n : ℕ) → false ≡ (n == 0) → 0 < n
above n h = grind arith

pub returns-in-Some-entry-clause-steps : goal.returns-in-Some-entry-clause-steps
returns-in-Some-entry-clause-steps c = gives_entry c.loop-line.self-inside.offset c.loop-line.self-inside.input.now c.in-Some.line.now c.in-Some.rest.now _ c.args.self.now c.loop-line.invariant.same c.in-Some.ensures.parts c.in-Some-entry.ensures

pub returns-in-Some-entry-clause-goes : goal.returns-in-Some-entry-clause-goes
returns-in-Some-entry-clause-goes c =
    let step : c.args.self.now ≡ Ok (view_of_entry c.in-Some-entry.entry) ∷ readings (c.loop-line.self-inside.offset + length c.in-Some.line.now + 1) (parts 10 c.in-Some.rest.now) = gives_entry c.loop-line.self-inside.offset c.loop-line.self-inside.input.now c.in-Some.line.now c.in-Some.rest.now _ c.args.self.now c.loop-line.invariant.same c.in-Some.ensures.parts c.in-Some-entry.ensures in
    let shorter = ap length step in search rules

pub returns-then-not-is_skipped-clause-steps : goal.returns-then-not-is_skipped-clause-steps
returns-then-not-is_skipped-clause-steps c = gives_error c.loop-line.self-inside.offset _ c.loop-line.self-inside.input.now c.in-Some.line.now c.in-Some.rest.now c.args.self.now c.loop-line.invariant.same c.in-Some.ensures.parts c.in_default-entry.ensures c.if-not-is_skipped.ensures

pub returns-then-not-is_skipped-clause-goes : goal.returns-then-not-is_skipped-clause-goes
returns-then-not-is_skipped-clause-goes c =
    let step : c.args.self.now ≡ Err c.loop-line.self-inside.offset ∷ readings (c.loop-line.self-inside.offset + length c.in-Some.line.now + 1) (parts 10 []) = gives_error c.loop-line.self-inside.offset _ c.loop-line.self-inside.input.now c.in-Some.line.now c.in-Some.rest.now c.args.self.now c.loop-line.invariant.same c.in-Some.ensures.parts c.in_default-entry.ensures c.if-not-is_skipped.ensures in
    let shorter = ap length step in search rules

pub loop-line-preserved : goal.loop-line-preserved
loop-line-preserved c = record {
  same = gives_next c.loop-line.self-inside.offset c.loop-line.self-inside.input.now c.in-Some.line.now c.in-Some.rest.now _ c.loop-line.invariant.same c.in-Some.ensures.parts c.in_default-entry.ensures c.if-not-is_skipped.ensures;
  room = omega (arith, c.in-Some.ensures.length);
}

pub returns-then-is_empty-clause-steps : goal.returns-then-is_empty-clause-steps
returns-then-is_empty-clause-steps c = gives_end c.loop-line.self-inside.offset c.loop-line.self-inside.input.now c.args.self.now c.loop-line.invariant.same (eqb-true _ 0 (sym c.if-is_empty.ensures))

pub returns-clause-steps : goal.returns-clause-steps
returns-clause-steps c = gives_last_error c.loop-line.self-inside.offset c.loop-line.self-inside.input.now c.args.self.now c.loop-line.invariant.same c.in_default.ensures.parts (above _ c.if-is_empty.ensures)

pub returns-clause-goes : goal.returns-clause-goes
returns-clause-goes c =
    let step : c.args.self.now ≡ Err c.loop-line.self-inside.offset ∷ readings c.loop-line.self-inside.offset (parts 10 []) = gives_last_error c.loop-line.self-inside.offset c.loop-line.self-inside.input.now c.args.self.now c.loop-line.invariant.same c.in_default.ensures.parts (above _ c.if-is_empty.ensures) in
    let shorter = ap length step in search rules
