use Rattle.std.proofs.Common.{rules, map, take, sym, get_or, None}
use Rattle.std.specs.List.{Contains, flat_map}
use Rattle.std.specs.Option.{option_copied}
use Rattle.hdr_runs.specs.Reports.{IsPairOf, subject, subjects_at}
use Rattle.hdr_runs.proofs.Reports.{zip_mapped, contains_mapped, error_at}
use Rattle.hdr_runs.proofs.report.pairs_of.Goals as goal

pub returns-in_err-pair_of-clause-errors : goal.returns-in_err-pair_of-clause-errors
returns-in_err-pair_of-clause-errors c =
    let items = c.args.tags.now in
    let runs = c.args.runs.now in
    let i = c.loop-tag.tag-index in
    let j = c.loop-run.run-index in
    let of_tag = contains_mapped option_copied items i None c.loop-tag-test.true in
    let of_run : Contains runs c.run-item.result = (j, c.loop-run-test.true, sym c.run-item.is) in
    let here = error_at c.args.tier c.args.before.now (map option_copied items) runs c.args.percentiles.now (option_copied (get_or items i None)) c.run-item.result
    c.in_err-pair_of.field-0.0 of_tag of_run c.in_err-pair_of.ensures.errors in
    search (rules, here, c.from_residual.ensures)

pub loop-run-preserved : goal.loop-run-preserved
loop-run-preserved c =
    rw (c.in_ok-push.ensures.items) (zip_mapped (IsPairOf c.args.tier c.args.before.now c.args.percentiles.now) (subject (option_copied _))
    (flat_map (subjects_at c.args.runs.now) (map option_copied (take c.loop-tag.tag-index c.args.tags.now))) c.args.runs.now c.loop-run.run-index c.run-item.result
    c.loop-run.pairs.items c.in_ok-pair_of.field-0 c.loop-run-test.true c.run-item.is c.loop-run.invariant c.in_ok-pair_of.ensures.pair)
