use Rattle.std.proofs.Common.{◌++◌, ◌∷◌, [], List, refl, sym, subst, ◌∙◌, append_assoc, append-nil}
use Rattle.hdrhistogram.specs.Chosen.{view_of_interval_choice}
use Rattle.hdr_logs.specs.Intervals.{LogInterval, LogHolds, view_of_log_interval}
use Rattle.hdr_logs.specs.Reading.{UnreadHold, IsEnd, intervals_of_line}
use Rattle.hdr_logs.specs.Sums.{view_of_sums, decimals_of_sums, AddsAt, Passes}
use Rattle.hdr_logs.proofs.Indices.{passes_then, known_then}
use Rattle.hdr_logs.proofs.NextLine.{if_known}
use Rattle.hdr_logs.proofs.sums.LogSums.read_log_into.Goals.{in-Chosen+in_ok-sum-in-Chosen+in_ok-pass-in-Chosen, in-Other}
use Rattle.hdr_logs.proofs.sums.LogSums.read_log_into.Goals as goal

pub loop-init : goal.loop-init
loop-init g c = record {
  indices = λ indexed. indexed;
  choice = refl;
  scale = λ d is. (is, refl);
  known = λ known. known;
  passed = λ indexed. ([], (refl, refl), (λ rest left. left), tt);
}

pub loop-preserved : goal.loop-preserved
loop-preserved g c =
    let remaining = g.R.Read.remaining in
    let takes = g.S.HistogramSink.takes in
    let so_far = c.loop.invariant in
    let line = c.in_ok-interval.ensures in
    let begun = c.in_ok-log.log in
    elim c.match-branch-3.branch [
      | in-Chosen+in_ok-sum-in-Chosen+in_ok-pass-in-Chosen w ↦
          let i = view_of_log_interval w.in-Chosen.interval in
          let one = w.in_ok-sum-in-Chosen.ensures in
          rw (w.self-is, w.sink-is) (record {
            indices = λ indexed. one.indices (so_far.indices indexed);
            choice = one.choice ∙ so_far.choice;
            scale = λ d is. let before = so_far.scale d is in (one.known d before.0, one.known_unit d before.0 ∙ before.1);
            known = λ known. line.known (so_far.known known);
            passed = λ indexed.
                let before = so_far.passed indexed in
                let now = so_far.indices indexed in
                let added = one.added now in
                let taken = w.in_ok-pass-in-Chosen.ensures added.0 added.3 in
                let at : AddsAt (view_of_sums c.loop.self) i (view_of_sums w.add.new.self) added.0 w.in_ok-sum-in-Chosen.sum =
                record { held = added.1; added = added.2; at = one.index now } in
                let passes : Passes takes (decimals_of_sums w.add.new.self) (view_of_sums c.loop.self) i (view_of_sums w.add.new.self) c.loop.sink w.pass.new.sink =
                (added.0, w.in_ok-sum-in-Chosen.sum, at, taken) in
                let more =
                passes_then takes before.0 i (view_of_sums c.args.self.now) (view_of_sums c.loop.self) (view_of_sums w.add.new.self) c.args.sink.now c.loop.sink w.pass.new.sink
                c.loop.self.decimals w.add.new.self.decimals w.add.ensures.known before.3 before.1 passes in
                let left : (rest : List LogInterval) → UnreadHold remaining c.next_line.new.self rest → UnreadHold remaining begun ((before.0 ++ i ∷ []) ++ rest) = λ rest h.
                let here = subst (λ l. UnreadHold remaining c.loop.log (intervals_of_line l ++ rest)) w.in-Chosen.is (line.intervals rest h) in
                subst (UnreadHold remaining begun) (sym (append_assoc before.0 (i ∷ []) rest)) (before.2 (i ∷ rest) here) in
                (before.0 ++ i ∷ [], more, left, known_then before.0 i w.add.new.self.decimals _ one.decimals);
          })
      | in-Other w ↦
          rw (w.self-is, w.sink-is) (record {
            indices = so_far.indices;
            choice = so_far.choice;
            scale = so_far.scale;
            known = λ known. line.known (so_far.known known);
            passed = λ indexed.
                let before = so_far.passed indexed in
                (before.0, before.1, (λ rest h. before.2 rest (subst (λ l. UnreadHold remaining c.loop.log (intervals_of_line l ++ rest)) w.in-Other.is (line.intervals rest h))), before.3);
          })
    ]

pub returns-in-End-clause-sums : goal.returns-in-End-clause-sums
returns-in-End-clause-sums g c = λ indexed.
    let remaining = g.R.Read.remaining in
    let before = c.loop.invariant.passed indexed in
    let line = c.in_ok-interval.ensures in
    let filter = view_of_interval_choice c.args.self.now.choice in
    let holds = if_known (λ text. LogHolds filter text before.0) (remaining c.args.reader) (λ known.
    let all = line.end (subst IsEnd (sym c.in-End.is) tt) (c.loop.invariant.known (c.in_ok-log.ensures.known known)) in
    let here = subst (λ l. UnreadHold remaining c.loop.log (intervals_of_line l ++ [])) c.in-End.is (line.intervals [] all) in
    c.in_ok-log.ensures.log before.0 (subst (UnreadHold remaining c.in_ok-log.log) (append-nil before.0) (before.2 [] here))) in
    (before.0, holds, before.1)
