use Rattle.std.proofs.Common.{Bool, rules}
use Rattle.std.specs.Ordering.{is_lt}
use Rattle.std.proofs.lemmas.List.Sorted.{answers_always, ranks_by}
use Rattle.hdr_verdict.specs.Tags.{tag_cmp}
use Rattle.hdr_verdict.specs.declared.tags.Tag.{Tag}
use Rattle.hdr_verdict.proofs.TagOrder.{tag_total}
use Rattle.hdr_verdict.proofs.tags.sort_tags.Goals as goal

pub returns-clause-sorted : goal.returns-clause-sorted
returns-clause-sorted c =
    let lt : Tag → Tag → Bool = λ s t. is_lt (tag_cmp s t) in
    c.in_ok-sort_by.ensures.sorted lt (ranks_by tag_total (λ (t : Tag). t)) (answers_always _ _ _ (λ f a r f' k. search rules))
