use Rattle.std.proofs.Common.{◌≡◌, ◌+◌, ◌<◌, ◌==◌, ℕ, length, true, false, arith, sym}
use Rattle.std.proofs.lemmas.Bool.{eqb-true}
use Rattle.std.specs.Option.{option_map, option_or}
use Rattle.hdr_log.specs.Parts.{parts}
use Rattle.hdr_log.specs.Reading.{view_of_entry, view_of_timed}
use Rattle.hdr_c.specs.Logs.{first_from, is_passed}
use Rattle.hdr_c.specs.Times.{as_time}
use Rattle.hdr_c.proofs.LogSteps.{has_entry, has_none, has_end, has_rest, has_interval, has_no_interval}
use Rattle.hdr_c.proofs.log_reading.first_interval.Goals as goal

above : (n : ℕ) → false ≡ (n == 0) → 0 < n
above n h = grind arith

pub returns-in-Some-timed-clause-found : goal.returns-in-Some-timed-clause-found
returns-in-Some-timed-clause-found c =
    let base = option_map as_time c.args.base in
    let last = option_or c.loop-line.last base in
    let next = c.loop-line.at + length c.in-Some.line.now + 1 in
    let e = view_of_entry c.in-Some-entry.entry in
    has_interval c.loop-line.last base e (is_passed c.in-Some.line.now) c.loop-line.at next (λ later. first_from next later (parts 10 c.in-Some.rest.now)) (view_of_timed c.in-Some-timed.found) (option_map as_time c.last_base.result) c.timed.new.self _
    c.in-Some-timed.ensures.interval c.timed.ensures.base c.last_base.ensures.time
    (has_entry c.loop-line.at last c.loop-line.text.now c.in-Some.line.now c.in-Some.rest.now e _ c.loop-line.invariant.same c.in-Some.ensures.parts c.in-Some-entry.ensures)

pub returns-then-not-is_passed-clause-found : goal.returns-then-not-is_passed-clause-found
returns-then-not-is_passed-clause-found c =
    has_none c.loop-line.at (option_or c.loop-line.last (option_map as_time c.args.base)) c.loop-line.text.now c.in-Some.line.now c.in-Some.rest.now false _ c.loop-line.invariant.same c.in-Some.ensures.parts c.in_default-entry.ensures c.if-not-is_passed.ensures

pub loop-line-preserved-in_default-timed : goal.loop-line-preserved-in_default-timed
loop-line-preserved-in_default-timed c =
    let base = option_map as_time c.args.base in
    let last = option_or c.loop-line.last base in
    let next = c.loop-line.at + length c.in-Some.line.now + 1 in
    let e = view_of_entry c.in-Some-entry.entry in
    record {
      same = has_no_interval c.loop-line.last base e (is_passed c.in-Some.line.now) c.loop-line.at next (λ later. first_from next later (parts 10 c.in-Some.rest.now)) c.timed.new.self _ c.in_default-timed.ensures.interval c.timed.ensures.base
          (has_entry c.loop-line.at last c.loop-line.text.now c.in-Some.line.now c.in-Some.rest.now e _ c.loop-line.invariant.same c.in-Some.ensures.parts c.in-Some-entry.ensures);
      within = omega (arith, c.in-Some.ensures.length, c.loop-line.invariant.within);
    }

pub loop-line-preserved : goal.loop-line-preserved
loop-line-preserved c = record {
  same = has_none c.loop-line.at (option_or c.loop-line.last (option_map as_time c.args.base)) c.loop-line.text.now c.in-Some.line.now c.in-Some.rest.now true _ c.loop-line.invariant.same c.in-Some.ensures.parts c.in_default-entry.ensures c.if-not-is_passed.ensures;
  within = omega (arith, c.in-Some.ensures.length, c.loop-line.invariant.within);
}

pub returns-then-is_empty-clause-found : goal.returns-then-is_empty-clause-found
returns-then-is_empty-clause-found c =
    has_end c.loop-line.at (option_or c.loop-line.last (option_map as_time c.args.base)) c.loop-line.text.now _ c.loop-line.invariant.same (eqb-true _ 0 (sym c.if-is_empty.ensures))

pub returns-else-is_empty-clause-found : goal.returns-else-is_empty-clause-found
returns-else-is_empty-clause-found c =
    has_rest c.loop-line.at (option_or c.loop-line.last (option_map as_time c.args.base)) c.loop-line.text.now _ c.loop-line.invariant.same c.in_default.ensures.parts (above _ c.if-is_empty.ensures)
