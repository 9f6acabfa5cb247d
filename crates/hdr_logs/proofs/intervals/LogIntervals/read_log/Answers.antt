use Rattle.std.proofs.Common.{◌≡◌, ◌++◌, ◌∷◌, ◌∙◌, [], List, refl, sym, subst, append_assoc, append-nil}
use Rattle.std.specs.Option.{option_map}
use Rattle.std.proofs.lemmas.List.Elements.{All-nil}
use Rattle.hdr_log.specs.Tags.{tag_text}
use Rattle.hdrhistogram.specs.Chosen.{view_of_interval_choice}
use Rattle.hdr_logs.specs.Intervals.{LogInterval, LogHolds, view_of_log_interval}
use Rattle.hdr_logs.specs.FileNames.{in_file}
use Rattle.hdr_logs.specs.Reading.{UnreadHold, HasScale, IsEnd, intervals_of_line, place_of}
use Rattle.hdr_logs.specs.Stored.{AddsOfFile, intervals_of}
use Rattle.hdr_logs.proofs.Storing.{adds_of_file, keeps_more}
use Rattle.hdr_logs.proofs.NextLine.{if_known}
use Rattle.hdr_logs.proofs.intervals.LogIntervals.read_log.Goals.{in-Chosen+in_ok-push-in-Chosen, in-Other}
use Rattle.hdr_logs.proofs.intervals.LogIntervals.read_log.Goals as goal

pub loop-init : goal.loop-init
loop-init g c = record {
  known = λ known. known;
  file = refl;
  files = ([], sym (append-nil c.args.self.now.list.items), All-nil (λ s. s.place.file ≡ (place_of c.in_ok-log.log).file));
  kept = ([], sym (append-nil (intervals_of c.args.self.now)), λ rest left. left);
}

pub loop-preserved : goal.loop-preserved
loop-preserved g c =
    let remaining = g.R.Read.remaining in
    let before = c.loop.invariant.kept in
    let line = c.in_ok-interval.ensures in
    let begun = c.in_ok-log.log in
    elim c.match-branch-3.branch [
      | in-Chosen+in_ok-push-in-Chosen w ↦
          let i = view_of_log_interval w.in-Chosen.interval in
          let pushed = w.in_ok-push-in-Chosen.ensures in
          let more = keeps_more (in_file (option_map tag_text c.args.file_name)) (intervals_of c.args.self.now) (intervals_of c.loop.self) (intervals_of w.push.new.self) before.0 i before.1 pushed.kept in
          let left : (rest : List LogInterval) → UnreadHold remaining c.next_line.new.self rest → UnreadHold remaining begun ((before.0 ++ i ∷ []) ++ rest) = λ rest h.
          let here = subst (λ l. UnreadHold remaining c.loop.log (intervals_of_line l ++ rest)) w.in-Chosen.is (line.intervals rest h) in
          subst (UnreadHold remaining begun) (sym (append_assoc before.0 (i ∷ []) rest)) (before.2 (i ∷ rest) here) in
          let scale = subst (HasScale c.next_line.new.self) w.in-Chosen.is line.scale in
          let file : w.in-Chosen.interval.place.file ≡ (place_of begun).file = scale.2 ∙ c.next_line.ensures.file ∙ c.loop.invariant.file in
          rw w.self-is (record {
            known = λ known. line.known (c.loop.invariant.known known);
            file = c.next_line.ensures.file ∙ c.loop.invariant.file;
            files = adds_of_file (place_of begun).file c.args.self.now c.loop.self w.push.new.self _ _ _ file c.loop.invariant.files pushed.scale;
            kept = (before.0 ++ i ∷ [], more, left);
          })
      | in-Other w ↦
          rw w.self-is (record {
            known = λ known. line.known (c.loop.invariant.known known);
            file = c.next_line.ensures.file ∙ c.loop.invariant.file;
            files = c.loop.invariant.files;
            kept = (before.0, before.1, λ rest h. before.2 rest (subst (λ l. UnreadHold remaining c.loop.log (intervals_of_line l ++ rest)) w.in-Other.is (line.intervals rest h)));
          })
    ]

pub returns-in-End-clause-files : goal.returns-in-End-clause-files
returns-in-End-clause-files g c = subst (λ file. AddsOfFile file c.args.self.now c.loop.self) c.in_ok-log.ensures.file c.loop.invariant.files

pub returns-in-End-clause-kept : goal.returns-in-End-clause-kept
returns-in-End-clause-kept g c =
    let remaining = g.R.Read.remaining in
    let before = c.loop.invariant.kept in
    let line = c.in_ok-interval.ensures in
    let filter = view_of_interval_choice c.args.choice in
    let holds = if_known (λ text. LogHolds filter text before.0) (remaining c.args.reader) (λ known.
    let all = line.end (subst IsEnd (sym c.in-End.is) tt) (c.loop.invariant.known (c.in_ok-log.ensures.known known)) in
    let here = subst (λ l. UnreadHold remaining c.loop.log (intervals_of_line l ++ [])) c.in-End.is (line.intervals [] all) in
    c.in_ok-log.ensures.log before.0 (subst (UnreadHold remaining c.in_ok-log.log) (append-nil before.0) (before.2 [] here))) in
    (before.0, holds, before.1)
