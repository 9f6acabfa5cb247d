use Rattle.std.proofs.Common.{◌≡◌, Some, IfOk, subst}
use Rattle.std.proofs.lemmas.Result.{on_ok_weaker}
use Rattle.hdr_logs.specs.Intervals.{view_of_log_interval}
use Rattle.hdr_logs.specs.Sums.{AreIndexed, index_of, sum_tag, sums_of}
use Rattle.hdr_logs.proofs.sums.LogSums.add_stored.Goals as goal

pub returns-clause-sums : goal.returns-clause-sums
returns-clause-sums c =
    on_ok_weaker c.add.result (λ adds indexed.
    let added = adds indexed in
    (view_of_log_interval c.interval.result, c.interval.ensures.tag, c.interval.ensures.field, (added.0, added.1, added.2))) c.add.ensures.added

pub returns-clause-index : goal.returns-clause-index
returns-clause-index c =
    subst (λ tag. IfOk c.add.result (λ index. AreIndexed c.args.self.now → index_of (sum_tag c.args.self.now.is_by_tag tag) (sums_of c.add.new.self) ≡ Some index))
    c.interval.ensures.tag c.add.ensures.index
