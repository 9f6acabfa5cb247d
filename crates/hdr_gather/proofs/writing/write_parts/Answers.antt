use Rattle.std.proofs.Common.{◌≡◌, ◌≢◌, ◌≤◌, ◌<◌, ◌+◌, ◌-◌, List, length, take, drop, take_all, ap, subst, ◌∙◌, arith, rules, Bor}
use Rattle.std.specs.List.{AllWithin, HoldsAt}
use Rattle.std.proofs.lemmas.List.{length-drop, length-map, length-take-le}
use Rattle.std.proofs.lemmas.Grind.{common_steps}
use Rattle.hdr_logs.specs.Stored.{Stored, view_of_stored}
use Rattle.hdr_logs.specs.declared.stored.StoredInterval.{StoredInterval}
use Rattle.hdr_gather.specs.Keys.{key_of, all_of}
use Rattle.hdr_gather.specs.Counts.{CountsMore}
use Rattle.hdr_gather.proofs.Counting.{counts_none, counts_then}
use Rattle.hdr_gather.proofs.Groups.{writes_start, writes_items, writes_all}
use Rattle.hdr_gather.proofs.writing.write_parts.Goals as goal

abbrev interval_at : Bor StoredInterval → Stored
interval_at part = view_of_stored part.now

pub loop-at-init : goal.loop-at-init
loop-at-init g c = record {
  divisor = c.requires.divisor;
  same = search rules;
  within = omega arith;
  written = (0, writes_start (all_of c.args.parts.now) _, counts_none c.args.sums.now.counts);
}

pub loop-at-preserved : goal.loop-at-preserved
loop-at-preserved g c =
    let at = c.loop-at.at in
    let parts = c.args.parts.now in
    let same = c.same_key.result in
    let count : at + 1 + same - (at + 1) ≡ same = omega arith in
    let first = c.index-parts-at.result in
    let rest : List (Bor StoredInterval) = drop (at + 1) parts in
    let is : take (length parts - (at + 1)) rest ≡ rest = take_all (length parts - (at + 1)) rest (omega (arith, length-drop (at + 1) parts)) in
    let within = subst (λ xs. same ≤ length xs) is c.same_key.ensures.bound in
    let keys = subst (λ xs. AllWithin (λ p. key_of (interval_at p) ≡ key_of (interval_at first)) xs 0 same) is c.same_key.ensures.same in
    let next = subst (λ xs. same < length xs → HoldsAt (λ p. key_of (interval_at p) ≢ key_of (interval_at first)) xs same) is c.same_key.ensures.next in
    let others : length (take (at + 1 + same - (at + 1)) rest) ≡ same = ap (λ n. length (take n rest)) count ∙ length-take-le same rest within in
    let all : at + (length (take (at + 1 + same - (at + 1)) rest) + 1) ≡ at + 1 + same = omega (arith, others) in
    let before = c.loop-at.invariant.written in
    let here = c.in_ok-write_sum.ensures.written in
    record {
      divisor = search rules;
      same = search rules;
      within = grind (arith, common_steps);
      written = (
        before.0 + here.0,
        writes_items interval_at parts at same first before.0 here.0 _ _ _ _ c.loop-at-test.true c.index-parts-at.is (ap (λ n. take n rest) count) c.requires.sorted within keys next before.1 here.1,
        subst (λ n. CountsMore c.args.sums.now.counts n (before.0 + here.0) c.write_sum.new.sums.counts) all (counts_then _ _ _ at _ before.0 here.0 before.2 here.2),
      );
    }

pub returns-clause-written : goal.returns-clause-written
returns-clause-written g c =
    let written = c.loop-at.invariant.written in
    let all : c.loop-at.at ≡ length c.args.parts.now = omega (arith, c.loop-at-test.false, c.loop-at.invariant.within) in
    (written.0, writes_all _ _ (all_of c.args.parts.now) c.loop-at.at written.0 (omega (arith, c.loop-at-test.false, length-map c.args.parts.now interval_at)) written.1, subst (λ n. CountsMore c.args.sums.now.counts n written.0 c.loop-at.sums.counts) all written.2)
