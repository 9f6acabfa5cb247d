use Rattle.std.proofs.Common.{◌≡◌, ℕ, ◌∷◌, take, take_all, map, ap, subst, sym, ◌∙◌, arith}
use Rattle.hdr_logs.specs.Stored.{Stored, view_of_stored}
use Rattle.hdr_logs.specs.Aligned.{IsEarliest}
use Rattle.hdr_logs.specs.declared.stored.StoredInterval.{StoredInterval}
use Rattle.hdr_logs.proofs.Earliest.{earliest_of_one, earliest_next, map_twice}
use Rattle.hdr_logs.proofs.aligning.first_start.Goals as goal

abbrev start_of : StoredInterval → ℕ
start_of i = i.start

pub loop-interval-init : goal.loop-interval-init
loop-interval-init c = earliest_of_one c.in_ok-first.first.now.start

pub loop-interval-preserved : goal.loop-interval-preserved
loop-interval-preserved c =
    let new = c.earlier-start.ensures in
    earliest_next start_of c.in_ok-first.first.now.start c.in_ok-first.others.now c.loop-interval.interval-index c.interval-item.result _ _ c.loop-interval-test.true c.interval-item.is c.loop-interval.invariant
    new.one new.other new.one_of

pub returns : goal.returns
returns c =
    let first = c.in_ok-first.first.now in
    let others = c.in_ok-first.others.now in
    let all : take c.loop-interval.interval-index others ≡ others = take_all c.loop-interval.interval-index others (omega (arith, c.loop-interval-test.false)) in
    let start : Stored → ℕ = λ i. i.start in
    let times : start_of first ∷ map start_of (take c.loop-interval.interval-index others) ≡ map start (map view_of_stored c.args.intervals.now) =
    ap (λ l. start_of first ∷ map start_of l) all ∙ map_twice start view_of_stored (first ∷ others) ∙ ap (λ l. map start (map view_of_stored l)) (sym c.in_ok-first.ensures.cases.0) in
    subst (λ l. IsEarliest l c.loop-interval.start) times c.loop-interval.invariant
