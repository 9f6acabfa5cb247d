use Rattle.std.proofs.Common.{◌≡◌, ap, subst, ◌∙◌, unwrap_or}
use Rattle.hdr_logs.specs.Intervals.{view_of_log_interval}
use Rattle.hdr_logs.specs.Stored.{decimals_of}
use Rattle.hdr_logs.specs.Sums.{view_of_sums, decimals_of_sums, AddsAt}
use Rattle.hdr_logs.proofs.sums.LogSums.add_stored_into.Goals as goal

pub returns-clause-sums : goal.returns-clause-sums
returns-clause-sums g c = λ indexed.
    let one = c.in_ok-sum.ensures in
    let added = one.added indexed in
    let taken = c.in_ok-pass.ensures added.0 added.3 in
    let at : AddsAt (view_of_sums c.args.self.now) (view_of_log_interval c.interval.result) (view_of_sums c.add.new.self) added.0 c.in_ok-sum.sum =
    record { held = added.1; added = added.2; at = one.index indexed } in
    let same : decimals_of_sums c.add.new.self ≡ decimals_of c.args.stored.now =
    ap (λ d. unwrap_or d 0) one.decimals ∙ ap (λ d. unwrap_or d 0) c.interval.ensures.decimals in
    let taken_in = subst (λ d. g.S.HistogramSink.takes c.args.sink.now c.in_ok-sum.sum added.0 d c.pass.new.sink) same taken in
    (view_of_log_interval c.interval.result, c.interval.ensures.tag, c.interval.ensures.field, (added.0, c.in_ok-sum.sum, at, taken_in))
