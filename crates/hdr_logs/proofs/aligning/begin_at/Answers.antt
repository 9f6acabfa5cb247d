use Rattle.std.proofs.Common.{◌≡◌, ◌<◌, ◌++◌, [], length, get_or, map, take, drop, take_all, append-nil, refl, ap, ◌∙◌, arith}
use Rattle.std.proofs.lemmas.List.{length-map, drop_all, get_or_default}
use Rattle.hdr_logs.specs.Stored.{view_of_stored, decimals_of}
use Rattle.hdr_logs.specs.Aligned.{moved}
use Rattle.hdr_logs.proofs.Moving.{values_next, values_same, begin}
use Rattle.hdr_logs.proofs.aligning.begin_at.Goals as goal

pub loop-interval-preserved : goal.loop-interval-preserved
loop-interval-preserved c =
    let old = c.args.intervals.now in
    let new = c.loop-interval.intervals in
    let i = c.loop-interval.interval-index in
    let item = get_or new i c.interval-item.result in
    let so_far = c.loop-interval.invariant in
    let k : i < length new = omega (arith, c.loop-interval-test.true, c.loop-interval.auto.intervals) in
    let l : i < length old = omega (arith, c.loop-interval-test.true, c.loop-interval.auto.intervals) in
    let is : item ≡ get_or new i item = get_or_default new i c.interval-item.result item k in
    let start : c.in_ok-interval.field-0 ≡ (moved c.in-Some.first c.args.start (view_of_stored item)).start = c.in_ok-interval.ensures in
    record {
      moved = values_next view_of_stored (moved c.in-Some.first c.args.start) old new i item _ l k is (rw start refl) so_far.moved (length-map old view_of_stored);
      decimals = values_same decimals_of new i item _ k is refl ∙ so_far.decimals;
      unit = values_same (λ s. s.unit) new i item _ k is refl ∙ so_far.unit;
    }

pub returns-clause-begin : goal.returns-clause-begin
returns-clause-begin c =
    let old = map view_of_stored c.args.intervals.now in
    let i = c.loop-interval.interval-index in
    let many : length old ≡ length c.args.intervals.now = length-map c.args.intervals.now view_of_stored in
    let front : take i old ≡ old = take_all i old (omega (arith, c.loop-interval-test.false, c.loop-interval.auto.intervals, many)) in
    let back : drop i old ≡ [] = drop_all i old (omega (arith, c.loop-interval-test.false, c.loop-interval.auto.intervals, many)) in
    let m = moved c.in-Some.first c.args.start in
    let all : map view_of_stored c.loop-interval.intervals ≡ map m old = c.loop-interval.invariant.moved ∙ ap (λ l. map m l ++ drop i old) front ∙ ap (λ l. map m old ++ l) back ∙ append-nil (map m old) in
    begin c.in-Some.first c.args.start old _ c.in-Some.ensures all
