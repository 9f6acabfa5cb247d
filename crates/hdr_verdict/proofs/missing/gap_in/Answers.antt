use Rattle.std.proofs.Common.{◌≡◌, ◌-◌, true, length, arith, ap, sym, ◌∙◌}
use Rattle.hdr_verdict.specs.Missing.{is_gap}
use Rattle.hdr_verdict.proofs.Gaps.{gap-within, first-at-most, length-cells}
use Rattle.hdr_verdict.proofs.missing.gap_in.Goals as goal

pub overflow_add-result : goal.overflow_add-result
overflow_add-result c =
    let cells = c.cells_of-cells.result.now in
    let long : length cells ≡ c.args.run.end - c.args.run.start = ap length c.cells_of-cells.ensures ∙ length-cells c.args.rates.now c.args.run c.requires in
    omega (arith, first-at-most cells)

pub returns-clause-within : goal.returns-clause-within
returns-clause-within c =
    let cells = c.cells_of-cells.result.now in
    let long : length cells ≡ c.args.run.end - c.args.run.start = ap length c.cells_of-cells.ensures ∙ length-cells c.args.rates.now c.args.run c.requires in
    let gap : is_gap cells ≡ true = sym c.is_gap.ensures ∙ c.if-not-is_gap.false in
    let within = gap-within cells gap in
    (omega arith, omega arith)
