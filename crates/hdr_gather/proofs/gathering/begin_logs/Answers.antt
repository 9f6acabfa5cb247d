use Rattle.std.proofs.Common.{◌<◌, length, [], subst, arith, take_all}
use Rattle.std.specs.List.{All}
use Rattle.std.proofs.lemmas.List.Elements.{All-nil, All-set, All-get_or}
use Rattle.hdr_gather.specs.Left.{IsKnown, IsReady}
use Rattle.hdr_gather.proofs.Left.{loses_none, loses_set, loses_both, all_up_to}
use Rattle.hdr_gather.proofs.gathering.begin_logs.Goals as goal

pub loop-log-init : goal.loop-log-init
loop-log-init g c = record {
  left = loses_none g.R.Read.remaining c.args.logs.now;
  known = λ known. known;
  ready = λ known. All-nil (IsReady g.R.Read.remaining);
}

pub loop-log-preserved : goal.loop-log-preserved
loop-log-preserved g c =
    let remaining = g.R.Read.remaining in
    let logs = c.loop-log.logs in
    let i = c.loop-log.log-index in
    let old = c.log-item.result in
    let new = c.begin.new.self in
    let so_far = c.loop-log.invariant in
    let below : i < length logs = omega (arith, c.loop-log-test.true, c.loop-log.auto.logs) in
    let ready : All (IsKnown remaining) c.args.logs.now → IsReady remaining new = λ known. c.in_ok-begin.ensures.ready (All-get_or (IsKnown remaining) logs i old below (so_far.known known)) in
    record {
      left = loses_both remaining c.args.logs.now logs _ [] [] so_far.left (loses_set remaining logs i old new [] below c.in_ok-begin.ensures.left);
      known = λ known. All-set (IsKnown remaining) logs i new (ready known).0 (so_far.known known);
      ready = λ known. all_up_to (IsReady remaining) logs i new below (so_far.ready known) (ready known);
    }

pub returns-clause-ready : goal.returns-clause-ready
returns-clause-ready g c = λ known.
    subst (All (IsReady g.R.Read.remaining)) (take_all c.loop-log.log-index c.loop-log.logs (omega arith)) (c.loop-log.invariant.ready known)
