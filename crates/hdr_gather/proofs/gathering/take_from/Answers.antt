use Rattle.std.proofs.Common.{◌≡◌, ◌++◌, ◌∷◌, [], IfSome, subst, sym}
use Rattle.std.specs.List.{All}
use Rattle.std.proofs.lemmas.List.Elements.{All-nil, All-cons, All-append}
use Rattle.hdr_gather.specs.Left.{HasLeft, next_interval}
use Rattle.hdr_gather.proofs.Left.{takes_none, takes_more}
use Rattle.hdr_gather.proofs.gathering.take_from.Goals as goal

pub loop-init : goal.loop-init
loop-init g c = record {
  rest = c.requires.rest;
  taken = c.requires.taken;
  left = takes_none g.R.Read.remaining c.args.log.now c.args.taken.now.items;
  ready = λ ready. ready;
}

pub loop-preserved : goal.loop-preserved
loop-preserved g c =
    let remaining = g.R.Read.remaining in
    let so_far = c.loop.invariant in
    let next = c.in_ok-interval.ensures in
    let i = c.in-Some.interval in
    let items = c.in_ok-push-in-Some.ensures.items in
    let start = c.args.start in
    let here : i.start ≡ start = subst (λ o. IfSome o (λ i. i.start ≡ start)) c.in-Some.is next.taken in
    record {
      rest = next.from so_far.rest;
      taken = subst (All (λ i. i.start ≡ start)) (sym items) (All-append (λ i. i.start ≡ start) c.loop.taken.items (i ∷ []) so_far.taken (All-cons (λ i. i.start ≡ start) i [] here (All-nil (λ i. i.start ≡ start))));
      left = takes_more remaining c.args.log.now c.loop.log c.next_at.new.self c.args.taken.now.items c.loop.taken.items c.push.new.self.items i so_far.left items
          (λ rest left. subst (λ o. HasLeft remaining c.loop.log (next_interval o ++ rest)) c.in-Some.is (next.left rest left));
      ready = λ ready. next.ready (so_far.ready ready);
    }

pub returns-in-None-clause-ready : goal.returns-in-None-clause-ready
returns-in-None-clause-ready g c = λ ready. c.in_ok-interval.ensures.ready (c.loop.invariant.ready ready)

pub returns-in-None-clause-left : goal.returns-in-None-clause-left
returns-in-None-clause-left g c =
    let so_far = c.loop.invariant.left in
    (so_far.0, so_far.1, λ rest left. so_far.2 rest (subst (λ o. HasLeft g.R.Read.remaining c.loop.log (next_interval o ++ rest)) c.in-None.is (c.in_ok-interval.ensures.left rest left)))
