use Rattle.std.proofs.Common.{◌≡◌, ◌∙◌, arith, map, subst, take_all, IsPermutation}
use Rattle.std.proofs.lemmas.List.Sorted.{IsPermutation-map}
use Rattle.hdr_figures.specs.declared.sums.Key.{Key}
use Rattle.hdr_figures.proofs.sums.keys_of.Goals as goal

pub returns : goal.returns
returns c =
    let all = c.args.intervals.now in
    let keys = c.loop-interval.keys.items in
    let sorted = c.sort_by_key.new.self.items in
    let whole : map (λ (k : Key). k.interval.now) keys ≡ all = c.loop-interval.invariant ∙ take_all c.loop-interval.interval-index all (omega arith) in
    subst (λ l. IsPermutation l (map (λ (k : Key). k.interval.now) sorted)) whole (IsPermutation-map (λ (k : Key). k.interval.now) keys sorted c.sort_by_key.ensures.permutation)
