use Rattle.std.proofs.Common.{◌≡◌, get_or, subst, rules}
use Rattle.hdr_logs.specs.Sums.{view_of_sum, with_added}
use Rattle.hdr_logs.proofs.Indices.{added_sum, sum_added}
use Rattle.hdr_logs.proofs.sums.LogSums.add_at.Goals as goal

pub returns-clause-added : goal.returns-clause-added
returns-clause-added c = λ below.
    let sums = c.args.self.now.sums.items in
    let old = c.in-Some.sum.now in
    let new = c.add_field.new.self in
    let held = c.in_ok-is_coarser.ensures.added in
    let item : old ≡ get_or sums c.args.index old = search rules in
    let after : view_of_sum new ≡ with_added (view_of_sum (get_or sums c.args.index old)) held.0 =
    subst (λ s. view_of_sum new ≡ with_added (view_of_sum s) held.0) item (sum_added old new held.0 c.in_ok-is_coarser.ensures.tag held.2) in
    (held.0, held.1, added_sum sums c.args.index old new held.0 below after, held.3)
