use Rattle.std.proofs.Common.{◌≡◌, List, Bor, length, map, sym, ap, subst, ◌∙◌, rules}
use Rattle.std.specs.List.Sorted.{IsPermutation}
use Rattle.std.proofs.lemmas.List.{length-map}
use Rattle.std.proofs.lemmas.List.Sorted.{length_permutation}
use Rattle.hdr_logs.specs.Stored.{Stored, view_of_stored}
use Rattle.hdr_logs.specs.declared.stored.StoredInterval.{StoredInterval}
use Rattle.hdr_gather.specs.Counts.{CountsMore}
use Rattle.hdr_gather.specs.Keys.{all_of}
use Rattle.hdr_logs.proofs.Parts.{map_twice}
use Rattle.hdr_gather.proofs.Parts.{on_ok}
use Rattle.hdr_gather.proofs.writing.write_intervals.Goals as goal

abbrev behind : Bor StoredInterval → StoredInterval
behind part = part.now

abbrev part_at : Bor StoredInterval → Stored
part_at part = view_of_stored part.now

pub returns-clause-written : goal.returns-clause-written
returns-clause-written g c =
    let parts = c.in_ok-parts.parts.items in
    let intervals : List Stored = map view_of_stored c.args.intervals.now in
    let refs : map behind parts ≡ c.args.intervals.now = search rules in
    let all : all_of parts ≡ intervals = map_twice view_of_stored behind parts ∙ ap (map view_of_stored) refs in
    let sorted : IsPermutation intervals (all_of c.sort.new.parts.items) = subst (λ l. IsPermutation l (all_of c.sort.new.parts.items)) all c.in_ok-sort.ensures.permutation in
    let sorted_parts = c.sort.new.parts.items in
    let many : length c.deref.result.now ≡ length c.args.intervals.now =
    ap length c.deref.ensures.value ∙ sym (length-map sorted_parts part_at) ∙ length_permutation intervals (all_of sorted_parts) sorted ∙ length-map c.args.intervals.now view_of_stored in
    on_ok c.write_parts.result (λ written. (written.0, (all_of c.deref.result.now, subst (λ l. IsPermutation intervals (all_of l)) (sym c.deref.ensures.value) sorted, written.1), subst (λ n. CountsMore c.args.sums.now.counts n written.0 c.write_parts.new.sums.counts) many written.2)) c.write_parts.ensures.written
