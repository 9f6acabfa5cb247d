use mir.Val.{bool_byte}
use Rattle.std.proofs.Common.{◌∙◌, ◌<◌, length, take_all, refl, sym, ap, subst, arith}
use Rattle.std.specs.List.{count_by}
use Rattle.std.proofs.lemmas.List.Elements.{AllWithin-from_all, AllWithin-more_set, AllWithin-upto, All-from_all_within}
use Rattle.hdr_logs.specs.Scales.{is_coarser, IsAsFine, IsConverted, IsIn}
use Rattle.hdr_logs.proofs.Changed.{changed-step, changed-all, counted-more}
use Rattle.hdr_logs.proofs.scales.Converter.convert_all.Goals as goal

pub convert-requires : goal.convert-requires
convert-requires c =
    let old = c.args.intervals.now in
    let i = c.loop-interval.interval-index in
    let item = c.interval-item.result in
    let inside : i < length old = omega (arith, c.loop-interval-test.true, c.loop-interval.auto.intervals) in
    let fine = AllWithin-from_all (IsAsFine c.args.scale.decimals c.args.scale.unit) old c.requires i item (omega arith) inside in
    subst (IsAsFine c.args.scale.decimals c.args.scale.unit) (sym (c.loop-interval.invariant.changed.rest i item (omega arith))) fine

pub loop-interval-preserved : goal.loop-interval-preserved
loop-interval-preserved c =
    let now = c.loop-interval.intervals in
    let i = c.loop-interval.interval-index in
    let inside : i < length now = omega (arith, c.loop-interval-test.true, c.loop-interval.auto.intervals) in
    let done = c.in_ok-has_other_values.ensures in
    let old = c.args.intervals.now in
    let item = c.interval-item.result in
    let P = is_coarser c.args.scale.decimals c.args.scale.unit in
    let inside_old : i < length old = omega (arith, c.loop-interval-test.true, c.loop-interval.auto.intervals) in
    record {
      count = counted-more P old i item c.loop-interval.converted c.from.result c.saturating_add-converted.result c.in_ok-has_other_values.has_other_values bool_byte inside_old
          c.loop-interval.invariant.count (done.other_values ∙ ap P (c.loop-interval.invariant.changed.rest i item (omega arith))) c.from.ensures refl refl c.saturating_add-converted.ensures (omega arith);
      changed = changed-step IsConverted c.args.intervals.now now i _ c.convert.new.interval inside c.loop-interval.invariant.changed done.converted;
      scale = AllWithin-more_set now i c.convert.new.interval inside (IsIn c.args.scale.decimals c.args.scale.unit) c.loop-interval.invariant.scale done.scale;
    }

pub returns-clause-converted : goal.returns-clause-converted
returns-clause-converted c = changed-all IsConverted c.args.intervals.now c.loop-interval.intervals c.loop-interval.interval-index c.loop-interval.auto.intervals c.loop-interval-test.false c.loop-interval.invariant.changed

pub returns-clause-scale : goal.returns-clause-scale
returns-clause-scale c =
    let now = c.loop-interval.intervals in
    let P = IsIn c.args.scale.decimals c.args.scale.unit in
    All-from_all_within P now (AllWithin-upto P now 0 c.loop-interval.interval-index (length now) (omega (arith, c.loop-interval-test.false, c.loop-interval.auto.intervals)) c.loop-interval.invariant.scale)

pub returns-clause-count : goal.returns-clause-count
returns-clause-count c =
    let old = c.args.intervals.now in
    let P = is_coarser c.args.scale.decimals c.args.scale.unit in
    c.loop-interval.invariant.count ∙ ap (count_by P) (take_all c.loop-interval.interval-index old (omega (arith, c.loop-interval-test.false)))
