use Rattle.std.proofs.Common.{◌∙◌, ap, sym, subst, length, map, Bor}
use Rattle.hdr_logs.specs.declared.stored.StoredInterval.{StoredInterval}
use Rattle.hdr_verdict.specs.Cells.{cells_of_intervals}
use Rattle.hdr_verdict.specs.Decoders.{intervals_of}
use Rattle.hdr_verdict.specs.Samples.{AreHeld, width_of, samples_of_cells}
use Rattle.hdr_verdict.proofs.Holding.{refs-many}
use Rattle.hdr_verdict.proofs.CellSamples.{cells-counted}
use Rattle.hdr_verdict.proofs.samples.TagSamples.new.Goals as goal

pub cells_of-requires : goal.cells_of-requires
cells_of-requires c =
    ap length c.deref.ensures.value ∙ c.in_ok-counts.ensures.many ∙ ap length (sym c.in_ok-counts.ensures.intervals) ∙ sym (refs-many c.intervals.result.now (intervals_of c.count.new.self) c.intervals.ensures)

pub returns-clause-samples : goal.returns-clause-samples
returns-clause-samples c = λ all held fits.
    let here = subst (λ l. AreHeld l all) (sym c.new-decoder.ensures) held in
    let counts = c.in_ok-counts.ensures.counts all here in
    record {
      all = all;
      held = subst (λ l. AreHeld l all) (sym c.in_ok-counts.ensures.intervals) here;
      width = counts.1;
      are = ap (λ w. samples_of_cells all w c.in_ok-cells_of.field-0.items) (sym counts.1);
      counts = cells-counted all (width_of all) c.deref.result.now c.in_ok-cells_of.field-0.items (c.deref.ensures.value ∙ counts.0) c.in_ok-cells_of.ensures.counted fits;
      fits = fits;
    }

pub returns-clause-cells : goal.returns-clause-cells
returns-clause-cells c = λ all held.
    let here = subst (λ l. AreHeld l all) (sym c.new-decoder.ensures) held in
    let counts = c.deref.ensures.value ∙ (c.in_ok-counts.ensures.counts all here).0 in
    let intervals = c.intervals.ensures ∙ c.in_ok-counts.ensures.intervals ∙ c.new-decoder.ensures in
    c.in_ok-cells_of.ensures.cells ∙ ap (λ l. cells_of_intervals l c.deref.result.now c.args.end) intervals
    ∙ ap (λ n. cells_of_intervals (map (λ (r : Bor StoredInterval). r.now) c.args.intervals.items) n c.args.end) counts
