use Rattle.std.proofs.Common.{Some, arith, ap, sym, ◌∙◌}
use Rattle.hdr_verdict.proofs.Falls.{last-yes, last-no, no_time}
use Rattle.hdr_verdict.proofs.episode.TagCells.last_fall.Goals as goal
use Rattle.hdr_verdict.proofs.episode.TagCells.last_fall.Goals.{then-is_fall_during, else-is_fall_during}

pub loop-time-preserved : goal.loop-time-preserved
loop-time-preserved c =
    let cells = c.args.self.now.cells.now in
    let missing = c.args.missing.now in
    elim c.if-is_fall_during.branch [
      | then-is_fall_during w ↦ w.last-is ∙ ap Some w.change_of.ensures ∙ sym (last-yes cells c.args.run missing c.loop-time.time-index no_time (omega arith) (sym w.if-is_fall_during.ensures))
      | else-is_fall_during w ↦ w.last-is ∙ c.loop-time.invariant ∙ sym (last-no cells c.args.run missing c.loop-time.time-index no_time (omega arith) (sym w.if-is_fall_during.ensures))
    ]
