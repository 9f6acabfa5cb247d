use Rattle.std.proofs.Common.{◌≡◌, ◌∙◌, Bool, arith, map, rules, subst, take_all, IsPermutation}
use Rattle.std.specs.Ordering.{is_lt}
use Rattle.std.proofs.lemmas.List.Sorted.{answers_always, ranks_by, IsPermutation-map}
use Rattle.hdr_logs.specs.declared.stored.StoredInterval.{StoredInterval}
use Rattle.hdr_verdict.specs.Tags.{interval_cmp}
use Rattle.hdr_verdict.specs.declared.tags.Entry.{Entry}
use Rattle.hdr_verdict.proofs.TagOrder.{interval_total, sorted-views}
use Rattle.hdr_verdict.proofs.tags.sorted.Goals as goal

abbrev interval_of : Entry → StoredInterval
interval_of e = e.interval.now

pub returns-clause-permutation : goal.returns-clause-permutation
returns-clause-permutation c =
    let all = c.args.intervals.now in
    let entries = c.loop-interval.entries.items in
    let sorted = c.sort_by.new.self.items in
    let whole : map interval_of entries ≡ all = c.loop-interval.invariant ∙ take_all c.loop-interval.interval-index all (omega arith) in
    subst (λ l. IsPermutation l (map interval_of sorted)) whole (IsPermutation-map interval_of entries sorted c.in_ok-sort_by.ensures.permutation)

pub returns-clause-sorted : goal.returns-clause-sorted
returns-clause-sorted c =
    let lt : Entry → Entry → Bool = λ e f. is_lt (interval_cmp (interval_of e) (interval_of f)) in
    sorted-views interval_cmp interval_of c.sort_by.new.self.items (c.in_ok-sort_by.ensures.sorted lt (ranks_by interval_total interval_of) (answers_always _ _ _ (λ f a r f' k. search rules)))
