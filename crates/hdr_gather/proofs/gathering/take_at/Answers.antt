use Rattle.std.proofs.Common.{◌≡◌, ◌<◌, ◌+◌, length, get_or, map, sym, subst, arith, take_all}
use Rattle.std.specs.List.{All}
use Rattle.std.proofs.lemmas.List.Elements.{All-nil, All-set, All-get_or}
use Rattle.hdr_gather.specs.Left.{IsFrom}
use Rattle.hdr_logs.specs.Stored.{view_of_stored}
use Rattle.hdr_gather.specs.Left.{IsReady, Loses}
use Rattle.hdr_gather.proofs.Left.{loses_none, loses_taken, all_up_to}
use Rattle.hdr_gather.proofs.Readers.{from_later}
use Rattle.hdr_gather.proofs.gathering.take_at.Goals as goal

pub loop-log-init : goal.loop-log-init
loop-log-init g c = record {
  rest = c.requires;
  later = All-nil (IsFrom (c.args.start + 1));
  taken = subst (All (λ i. i.start ≡ c.args.start)) (sym c.new-taken.ensures.items) (All-nil (λ i. i.start ≡ c.args.start));
  left = subst (λ l. Loses g.R.Read.remaining c.args.logs.now c.args.logs.now (map view_of_stored l)) (sym c.new-taken.ensures.items) (loses_none g.R.Read.remaining c.args.logs.now);
  ready = λ ready. ready;
}

pub loop-log-preserved : goal.loop-log-preserved
loop-log-preserved g c =
    let remaining = g.R.Read.remaining in
    let logs = c.loop-log.logs in
    let i = c.loop-log.log-index in
    let old = c.log-item.result in
    let new = c.take_from.new.log in
    let so_far = c.loop-log.invariant in
    let below : i < length logs = omega (arith, c.loop-log-test.true, c.loop-log.auto.logs) in
    let ready_here : All (IsReady remaining) c.args.logs.now → IsReady remaining (get_or logs i old) = λ ready. All-get_or (IsReady remaining) logs i old below (so_far.ready ready) in
    record {
      rest = All-set (IsFrom c.args.start) logs i new (from_later new c.args.start c.in_ok-take_from.ensures.rest) so_far.rest;
      later = all_up_to (IsFrom (c.args.start + 1)) logs i new below so_far.later c.in_ok-take_from.ensures.rest;
      taken = c.in_ok-take_from.ensures.taken;
      left = loses_taken remaining c.args.logs.now logs i old new c.loop-log.taken.items c.take_from.new.taken.items below c.in_ok-take_from.ensures.left so_far.left;
      ready = λ ready. All-set (IsReady remaining) logs i new (c.in_ok-take_from.ensures.ready (ready_here ready)) (so_far.ready ready);
    }

pub returns-clause-rest : goal.returns-clause-rest
returns-clause-rest g c =
    subst (All (IsFrom (c.args.start + 1))) (take_all c.loop-log.log-index c.loop-log.logs (omega arith)) c.loop-log.invariant.later
