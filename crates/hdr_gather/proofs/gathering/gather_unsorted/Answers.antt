use Rattle.std.proofs.Common.{◌≡◌, length, map, ap, subst, sym, ◌∙◌, rules}
use Rattle.std.proofs.lemmas.List.{length-map}
use Rattle.std.specs.List.Sorted.{IsPermutation}
use Rattle.hdrhistogram.specs.LogWriters.{sink}
use Rattle.hdr_logs.specs.Stored.{view_of_stored}
use Rattle.hdr_gather.specs.Counts.{CountsMore}
use Rattle.hdr_gather.specs.Logs.{WritesStart}
use Rattle.hdr_gather.proofs.Counting.{counts_all}
use Rattle.hdr_gather.proofs.gathering.gather_unsorted.Goals as goal

pub returns : goal.returns
returns g c =
    let contents = g.W.Write.contents in
    let start = subst (λ o. WritesStart c.decimals.result c.unit.result (contents c.args.output.now) (contents o)) (sym c.new-log.ensures.holds) c.in_ok-write_start.ensures in
    let written = c.in_ok-write_intervals.ensures.written in
    let all = written.1 in
    let moved = subst (λ l. IsPermutation (map view_of_stored l) all.0) c.deref.ensures.value all.1 in
    let lines = all.2 in
    let items = c.args.intervals.now.list.items in
    let many : length c.deref.result.now ≡ length (map view_of_stored items) = ap length c.deref.ensures.value ∙ sym (length-map items view_of_stored) in
    let counts = counts_all _ _ _ written.0 c.new-sums.ensures (subst (λ n. CountsMore c.new-sums.result.counts n written.0 c.write_intervals.new.sums.counts) many written.2) in
    (c.decimals.result, c.unit.result, (contents (sink c.new-log.result).now, written.0, start, (all.0, moved, (lines.0, lines.1, lines.2, lines.3, lines.4, search rules)), counts), λ decimals unit k d inside. (c.decimals.ensures decimals k d inside, c.unit.ensures unit k d inside))
