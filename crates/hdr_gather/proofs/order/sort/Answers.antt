use Rattle.std.proofs.Common.{Bool, Bor, rules}
use Rattle.std.specs.Ordering.{is_lt}
use Rattle.std.proofs.lemmas.List.Sorted.{answers_always, ranks_by, IsPermutation-map}
use Rattle.hdr_logs.specs.Stored.{Stored, view_of_stored}
use Rattle.hdr_logs.specs.declared.stored.StoredInterval.{StoredInterval}
use Rattle.hdr_gather.specs.Keys.{key_of, key_cmp}
use Rattle.hdr_gather.proofs.Keys.{key_total, sorted_map}
use Rattle.hdr_gather.proofs.order.sort.Goals as goal

abbrev interval_at : Bor StoredInterval → Stored
interval_at part = view_of_stored part.now

pub returns-clause-permutation : goal.returns-clause-permutation
returns-clause-permutation c = IsPermutation-map interval_at c.args.parts.now.items c.sort_by.new.self.items c.in_ok-sort_by.ensures.permutation

pub returns-clause-sorted : goal.returns-clause-sorted
returns-clause-sorted c =
    let lt : Bor StoredInterval → Bor StoredInterval → Bool = λ x y. is_lt (key_cmp (key_of (interval_at x)) (key_of (interval_at y))) in
    sorted_map interval_at c.sort_by.new.self.items (c.in_ok-sort_by.ensures.sorted lt (ranks_by key_total (λ part. key_of (interval_at part))) (answers_always _ _ _ (λ f a r f' k. search rules)))
