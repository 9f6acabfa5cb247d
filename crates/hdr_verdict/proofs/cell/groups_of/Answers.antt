use Rattle.std.proofs.Common.{◌≡◌, ◌∙◌, ◌+◌, ◌++◌, ◌∷◌, ◌<◌, None, Some, length, drop, map, get_or, ap, sym, arith, Bor}
use Rattle.std.proofs.lemmas.List.{get_or-map, length-map}
use Rattle.hdr_logs.specs.declared.stored.StoredInterval.{StoredInterval}
use Rattle.hdr_verdict.specs.Groups.{groups_from}
use Rattle.hdr_verdict.proofs.GroupFacts.{drop-one}
use Rattle.hdr_verdict.proofs.cell.groups_of.Goals as goal

pub loop-index-preserved : goal.loop-index-preserved
loop-index-preserved c =
    let now : Bor StoredInterval → StoredInterval = λ r. r.now in
    let refs = c.args.intervals.now in
    let all = map now refs in
    let i = c.loop-index.index in
    let r = c.index-intervals-index.result in
    let inside : i < length all = omega (arith, length-map refs now, c.loop-index-test.true) in
    let item : get_or all i r.now ≡ r.now = get_or-map now refs i r r.now c.loop-index-test.true ∙ ap now (sym c.index-intervals-index.is) in
    let front = drop-one all i r.now inside ∙ ap (λ x. x ∷ drop (i + 1) all) item in
    c.in_ok-after_interval.ensures (drop (i + 1) all) ∙ ap (λ l. c.loop-index.groups.items ++ groups_from c.args.counts.now c.loop-index.last i l) (sym front) ∙ c.loop-index.invariant
