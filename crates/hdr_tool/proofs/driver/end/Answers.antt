use Rattle.hdr_tool.proofs.Common.{refl, ap, Some, true, Plain, option_map, End, run_command, tag_text, IsV2, sink, CannotWrite, NoMemory}
use Rattle.hdr_model.specs.Recording.{after_reset}
use Rattle.hdr_tool.proofs.OutcomesRuns.{end_written, end_failed, end_refused, short, interval_same}
use Rattle.hdr_tool.proofs.driver.end.Goals as goal

pub returns-in-Ok-clause-goes : goal.returns-in-Ok-clause-goes
returns-in-Ok-clause-goes g c =
    let l = c.in-Ok.ensures.leaves in
    rw c.reset.ensures (end_written c.args.line c.args.histogram.now c.args.start c.args.duration (option_map tag_text c.args.tag) (g.W.Write.contents (sink c.args.log.now).now) (g.W.Write.contents (sink c.write_v2.new.self).now) c.show_plain.ensures
    (l.0, interval_same IsV2 c.args.histogram.now (option_map tag_text c.args.tag) _ _ _ _ _ _ l.0 c.from_millis-start.ensures c.from_millis-duration.ensures c.requires l.1, l.2))

pub returns-in-Ok-clause-grows : goal.returns-in-Ok-clause-grows
unfolding after_reset
returns-in-Ok-clause-grows g c = ap (λ (h : Plain). h.auto_resize) c.reset.ensures

pub returns-in-Err-IoError-clause-goes : goal.returns-in-Err-IoError-clause-goes
returns-in-Err-IoError-clause-goes g c =
    let l = rw c.in-Err-IoError.field-0-is at c.in-Err-IoError.ensures.leaves in
    end_failed c.args.line c.args.histogram.now c.args.start c.args.duration (option_map tag_text c.args.tag) (g.W.Write.contents (sink c.args.log.now).now) (g.W.Write.contents (sink c.write_v2.new.self).now) CannotWrite c.show_plain.ensures
    (l.0, interval_same IsV2 c.args.histogram.now (option_map tag_text c.args.tag) _ _ _ _ _ _ l.0 c.from_millis-start.ensures c.from_millis-duration.ensures c.requires l.1, l.2)

pub returns-in-Err-SerializeError-clause-goes : goal.returns-in-Err-SerializeError-clause-goes
returns-in-Err-SerializeError-clause-goes g c =
    let l = rw c.in-Err-SerializeError.field-0-is at c.in-Err-SerializeError.ensures.leaves in
    end_refused c.args.line c.args.histogram.now c.args.start c.args.duration (option_map tag_text c.args.tag) (g.W.Write.contents (sink c.args.log.now).now) (g.W.Write.contents (sink c.write_v2.new.self).now) l.0 l.1

pub returns-in-Err-OutOfMemory-clause-goes : goal.returns-in-Err-OutOfMemory-clause-goes
returns-in-Err-OutOfMemory-clause-goes g c = short (run_command true c.args.line c.args.histogram.now (Some (End c.args.start c.args.duration (option_map tag_text c.args.tag)))) (g.W.Write.contents (sink c.args.log.now).now) (g.W.Write.contents (sink c.write_v2.new.self).now) NoMemory refl (rw c.in-Err-OutOfMemory.field-0-is at c.in-Err-OutOfMemory.ensures.leaves)
