use Rattle.std.proofs.Common.{Bool, rules}
use Rattle.std.specs.Ordering.{is_lt}
use Rattle.std.proofs.lemmas.List.Sorted.{answers_always, ranks_by, IsPermutation-map}
use Rattle.hdr_verdict.specs.declared.episode.Episode.{Episode}
use Rattle.hdr_verdict.specs.declared.order.Key.{Key}
use Rattle.hdr_verdict.specs.Episodes.{view_of_episode}
use Rattle.hdr_verdict.specs.Incidents.{key_of_episode, key_cmp}
use Rattle.hdr_verdict.proofs.Keys.{key_total, sorted-map}
use Rattle.hdr_verdict.proofs.order.sort_episodes.Goals as goal

abbrev key_at : Episode → Key
key_at e = key_of_episode (view_of_episode e)

pub returns-clause-permutation : goal.returns-clause-permutation
returns-clause-permutation c = IsPermutation-map view_of_episode c.args.episodes.now.items c.sort_by.new.self.items c.in_ok-sort_by.ensures.permutation

pub returns-clause-sorted : goal.returns-clause-sorted
returns-clause-sorted c =
    let lt : Episode → Episode → Bool = λ e f. is_lt (key_cmp (key_at e) (key_at f)) in
    sorted-map view_of_episode key_of_episode c.sort_by.new.self.items (c.in_ok-sort_by.ensures.sorted lt (ranks_by key_total key_at) (answers_always _ _ _ (λ f a r f' k. search rules)))
