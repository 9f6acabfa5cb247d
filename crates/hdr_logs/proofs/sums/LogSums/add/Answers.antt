use Rattle.std.proofs.Common.{◌<◌, List, Some, None, map, length, sym, ap, subst, ◌∙◌}
use Rattle.std.specs.HashMap.{get_by_text}
use Rattle.std.proofs.lemmas.List.{length-map}
use Rattle.std.specs.Option.{option_map}
use Rattle.hdr_log.specs.Tags.{tag_text}
use Rattle.hdr_logs.specs.Sums.{Sum, index_of, view_of_sum, sum_tag}
use Rattle.hdr_logs.proofs.Indices.{index_added}
use Rattle.hdr_logs.proofs.sums.LogSums.add.Goals as goal

pub returns-clause-indices : goal.returns-clause-indices
returns-clause-indices c = λ indexed.
    let checked = c.in_ok-check_scale.ensures.indices indexed in
    let mid = c.index_of.new.self in
    let sums : List Sum = map view_of_sum mid.sums.items in
    let index = c.in_ok-index.index in
    let found = c.in_ok-index.ensures.indices checked in
    let at = c.in_ok-index.ensures.index checked in
    let below : index < length mid.sums.items = subst (λ n. index < n) (length-map mid.sums.items view_of_sum) at.0 in
    let added = c.in_ok-add_at.ensures.added below in (
      λ t. ap (λ m. get_by_text m t) c.add_at.ensures.indices ∙ found.0 t ∙ sym (index_added index sums added.0 (Some t)) ∙ ap (index_of (Some t)) (sym added.2),
      c.add_at.ensures.untagged ∙ found.1 ∙ sym (index_added index sums added.0 None) ∙ ap (index_of None) (sym added.2),
    )

pub returns-clause-index : goal.returns-clause-index
returns-clause-index c = λ indexed.
    let checked = c.in_ok-check_scale.ensures.indices indexed in
    let mid = c.index_of.new.self in
    let sums : List Sum = map view_of_sum mid.sums.items in
    let index = c.in_ok-index.index in
    let at = c.in_ok-index.ensures.index checked in
    let below : index < length mid.sums.items = subst (λ n. index < n) (length-map mid.sums.items view_of_sum) at.0 in
    let added = c.in_ok-add_at.ensures.added below in
    let tag = option_map tag_text c.args.interval.now.tag in
    let same = c.in_ok-check_scale.ensures.options.2 in
    let t = sum_tag c.check_scale.new.self.is_by_tag tag in
    ap (λ b. index_of (sum_tag b tag) (map view_of_sum c.add_at.new.self.sums.items)) (sym same) ∙ ap (index_of t) added.2 ∙ index_added index sums added.0 t
    ∙ c.in_ok-index.ensures.found checked
