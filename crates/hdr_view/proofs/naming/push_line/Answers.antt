use Rattle.std.proofs.Common.{◌≡◌, ◌∙◌, ◌+◌, ap, arith}
use Rattle.std.proofs.lemmas.List.Sorted.{sum_by-IsPermutation}
use Rattle.hdr_view.specs.Naming.{times, times_in}
use Rattle.hdr_view.proofs.Times.{one, times_in-push}
use Rattle.hdr_view.proofs.naming.push_line.Goals as goal

pub returns-clause-times : goal.returns-clause-times
returns-clause-times c = λ index.
    let lines = c.args.lines.now.items in
    let more : times_in index c.push_named.new.lines.items ≡ times_in index lines + times index c.sort_by_key.new.self.items =
    ap (times_in index) c.in_ok-push_named.ensures ∙ times_in-push index _ lines in
    let same : times index c.sort_by_key.new.self.items ≡ times index c.args.all.items =
    sum_by-IsPermutation (λ x. one index x) c.args.all.items c.sort_by_key.new.self.items c.in_ok-sort_by_key.ensures.permutation in
    omega arith
