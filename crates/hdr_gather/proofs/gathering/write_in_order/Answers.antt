use Rattle.std.proofs.Common.{◌≡◌, ◌≤◌, ◌+◌, ◌++◌, [], List, IfSome, length, length-append, map, subst, sym, ◌∙◌, arith, rules}
use Rattle.std.specs.List.{All}
use Rattle.std.proofs.lemmas.List.{length-map}
use Rattle.std.proofs.lemmas.List.Elements.{All-map}
use Rattle.std.proofs.lemmas.List.Sorted.{All-permutation, length_permutation}
use Rattle.hdr_logs.specs.Stored.{Stored, view_of_stored}
use Rattle.hdr_gather.specs.Counts.{CountsMore}
use Rattle.hdr_gather.specs.Left.{Loses}
use Rattle.hdr_gather.proofs.Ascending.{writes_nothing, writes_then, ascend_same}
use Rattle.hdr_gather.proofs.Counting.{counts_none, counts_then}
use Rattle.hdr_gather.proofs.Left.{loses_none, loses_then, all_lost, nothing_left}
use Rattle.hdr_gather.proofs.Readers.{all_from_0}
use Rattle.hdr_gather.proofs.Scales.{none_in, more_in}
use Rattle.hdr_gather.specs.Logs.{AreIn}
use Rattle.hdr_gather.proofs.gathering.write_in_order.Goals as goal

pub loop-init : goal.loop-init
loop-init g c = record {
  divisor = c.requires;
  same = search rules;
  written = (0, [], 0, writes_nothing 0 _, counts_none c.args.sums.now.counts, all_from_0 c.args.logs.now, loses_none g.R.Read.remaining c.args.logs.now, none_in c.args.decimals c.args.unit);
  ready = λ ready. ready;
}

pub loop-preserved : goal.loop-preserved
loop-preserved g c =
    let remaining = g.R.Read.remaining in
    let start = c.in-Some.start in
    let before = c.loop.invariant.written in
    let later : before.0 ≤ start = subst (λ o. IfSome o (λ t. before.0 ≤ t)) c.in-Some.is ((c.first_start.ensures before.0).1 before.5) in
    let taken : List Stored = map view_of_stored c.deref-in-loop.result.now in
    let here : All (λ i. i.start ≡ start) taken = All-map (λ i. i.start ≡ start) view_of_stored c.deref-in-loop.result.now (subst (All (λ i. i.start ≡ start)) (sym c.deref-in-loop.ensures.value) c.in_ok-intervals.ensures.taken) in
    let written = c.in_ok-write_intervals.ensures.written in
    let lines = written.1 in
    let sorted : All (λ i. i.start ≡ start) lines.0 = All-permutation (λ i. i.start ≡ start) taken lines.0 lines.1 here in
    let left : Loses remaining c.loop.logs c.take_at.new.logs taken = subst (λ l. Loses remaining c.loop.logs c.take_at.new.logs (map view_of_stored l)) (sym c.deref-in-loop.ensures.value) c.in_ok-intervals.ensures.left in
    let many : length before.1 + length c.deref-in-loop.result.now ≡ length (before.1 ++ lines.0) =
    omega (arith, length-append before.1 lines.0, length_permutation taken lines.0 lines.1, length-map c.deref-in-loop.result.now view_of_stored) in
    let one = c.in_ok-check_values.ensures in
    let items = c.deref-in-loop.result.now in
    let same : c.deref.result.now ≡ items = c.deref.ensures.value ∙ sym c.deref-in-loop.ensures.value in
    let checked : AreIn c.args.decimals c.args.unit items = subst (AreIn c.args.decimals c.args.unit) same (λ k d inside. (one.decimals k d inside ∙ search rules, one.unit k d inside)) in
    record {
      divisor = search rules;
      same = search rules;
      written = (
        start + 1,
        before.1 ++ lines.0,
        before.2 + written.0,
        writes_then 0 before.0 start (start + 1) before.1 lines.0 before.2 written.0 _ _ _ before.3 later (ascend_same start lines.0 sorted) lines.2,
        subst (λ n. CountsMore c.args.sums.now.counts n (before.2 + written.0) c.write_intervals.new.sums.counts) many (counts_then _ _ _ (length before.1) _ before.2 written.0 before.4 written.2),
        c.in_ok-intervals.ensures.rest,
        loses_then remaining c.args.logs.now c.loop.logs c.take_at.new.logs before.1 taken lines.0 before.6 left lines.1,
        more_in c.args.decimals c.args.unit before.1 lines.0 c.deref-in-loop.result.now before.7 checked lines.1,
      );
      ready = λ ready. c.in_ok-intervals.ensures.ready (c.loop.invariant.ready ready);
    }

pub returns-in_default-clause-written : goal.returns-in_default-clause-written
returns-in_default-clause-written g c =
    let before = c.loop.invariant.written in
    let remaining = g.R.Read.remaining in (
      before.1,
      before.2,
      before.3.1,
      before.4,
      λ ready. all_lost remaining c.args.logs.now c.loop.logs before.1 before.6
          (nothing_left remaining c.loop.logs (c.loop.invariant.ready ready) (λ low. (c.first_start.ensures low).0 (subst (λ o. IfSome o (λ t. low ≤ t)) (sym c.in_default.is) tt))),
      before.7,
    )
