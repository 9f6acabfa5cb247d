use Rattle.std.proofs.Common.{◌++◌, ◌∷◌, [], List, refl, sym, subst, ◌∙◌, append_assoc, append-nil}
use Rattle.hdrhistogram.specs.Chosen.{view_of_interval_choice}
use Rattle.hdr_logs.specs.Intervals.{LogInterval, LogHolds, view_of_log_interval}
use Rattle.hdr_logs.specs.Reading.{UnreadHold, IsEnd, intervals_of_line}
use Rattle.hdr_logs.specs.Sums.{view_of_sums}
use Rattle.hdr_logs.proofs.Indices.{adds_more}
use Rattle.hdr_logs.proofs.NextLine.{if_known}
use Rattle.hdr_logs.proofs.sums.LogSums.read_log.Goals.{in-Chosen+in_ok-add-in-Chosen, in-Other}
use Rattle.hdr_logs.proofs.sums.LogSums.read_log.Goals as goal

pub loop-init : goal.loop-init
loop-init g c = record {
  indices = λ indexed. indexed;
  choice = refl;
  scale = λ d is. (is, refl);
  known = λ known. known;
  added = λ indexed. ([], refl, λ rest left. left);
}

pub loop-preserved : goal.loop-preserved
loop-preserved g c =
    let remaining = g.R.Read.remaining in
    let so_far = c.loop.invariant in
    let line = c.in_ok-interval.ensures in
    let begun = c.in_ok-log.log in
    elim c.match-branch-3.branch [
      | in-Chosen+in_ok-add-in-Chosen w ↦
          let i = view_of_log_interval w.in-Chosen.interval in
          let one = w.in_ok-add-in-Chosen.ensures in
          rw w.self-is (record {
            indices = λ indexed. one.indices (so_far.indices indexed);
            choice = one.choice ∙ so_far.choice;
            scale = λ d is. let before = so_far.scale d is in (one.known d before.0, one.known_unit d before.0 ∙ before.1);
            known = λ known. line.known (so_far.known known);
            added = λ indexed.
                let before = so_far.added indexed in
                let more = adds_more before.0 i (view_of_sums c.args.self.now) (view_of_sums c.loop.self) (view_of_sums w.add.new.self) before.1 (let added = one.added (so_far.indices indexed) in (added.0, added.1, added.2)) in
                let left : (rest : List LogInterval) → UnreadHold remaining c.next_line.new.self rest → UnreadHold remaining begun ((before.0 ++ i ∷ []) ++ rest) = λ rest h.
                let here = subst (λ l. UnreadHold remaining c.loop.log (intervals_of_line l ++ rest)) w.in-Chosen.is (line.intervals rest h) in
                subst (UnreadHold remaining begun) (sym (append_assoc before.0 (i ∷ []) rest)) (before.2 (i ∷ rest) here) in
                (before.0 ++ i ∷ [], more, left);
          })
      | in-Other w ↦
          rw w.self-is (record {
            indices = so_far.indices;
            choice = so_far.choice;
            scale = so_far.scale;
            known = λ known. line.known (so_far.known known);
            added = λ indexed.
                let before = so_far.added indexed in
                (before.0, before.1, λ rest h. before.2 rest (subst (λ l. UnreadHold remaining c.loop.log (intervals_of_line l ++ rest)) w.in-Other.is (line.intervals rest h)));
          })
    ]

pub returns-in-End-clause-sums : goal.returns-in-End-clause-sums
returns-in-End-clause-sums g c = λ indexed.
    let remaining = g.R.Read.remaining in
    let before = c.loop.invariant.added indexed in
    let line = c.in_ok-interval.ensures in
    let filter = view_of_interval_choice c.args.self.now.choice in
    let holds = if_known (λ text. LogHolds filter text before.0) (remaining c.args.reader) (λ known.
    let all = line.end (subst IsEnd (sym c.in-End.is) tt) (c.loop.invariant.known (c.in_ok-log.ensures.known known)) in
    let here = subst (λ l. UnreadHold remaining c.loop.log (intervals_of_line l ++ [])) c.in-End.is (line.intervals [] all) in
    c.in_ok-log.ensures.log before.0 (subst (UnreadHold remaining c.in_ok-log.log) (append-nil before.0) (before.2 [] here))) in
    (before.0, holds, before.1)
