use Rattle.std.proofs.Common.{◌≤◌, length, map, arith, ap, ◌∙◌}
use Rattle.std.proofs.lemmas.Result.{on_ok_weaker}
use Rattle.hdr_verdict.specs.Episodes.{view_of_episode}
use Rattle.hdr_verdict.specs.Incidents.{view_of_incident}
use Rattle.hdr_verdict.proofs.Joining.{joins, begins, first_for}
use Rattle.hdr_verdict.proofs.incident.add.Goals as goal

pub returns-then-index-len : goal.returns-then-index-len
returns-then-index-len c =
    let e = view_of_episode c.args.episode in
    let old = c.args.incidents.now.items in
    let at = c.position-index.ensures ∙ ap (first_for e) c.deref.ensures.value in
    on_ok_weaker c.push.result (λ new. joins e old c.position-index.result c.index_mut.result.now c.push.new.self at (omega arith) c.index_mut.ensures.value new) c.push.ensures

pub returns : goal.returns
returns c =
    let e = view_of_episode c.args.episode in
    let old = c.args.incidents.now.items in
    let at = c.position-index.ensures ∙ ap (first_for e) c.deref.ensures.value in
    let none : length old ≤ first_for e old = omega arith in
    on_ok_weaker c.push_incident.result (λ new. ap (map view_of_incident) new ∙ begins e old c.new.result none c.new.ensures) c.push_incident.ensures
