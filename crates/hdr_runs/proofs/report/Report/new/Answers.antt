use Rattle.std.proofs.Common.{◌≡◌, ℕ, List, ◌*◌, ap, ◌∙◌, sym, subst, rules, map, length, Option, Some}
use Rattle.std.proofs.lemmas.List.{length-map}
use Rattle.std.specs.List.{AllZip, flat_map}
use Rattle.std.specs.Option.{option_copied}
use Rattle.hdr_runs.specs.Reports.{IsErrorAt, IsPairOf, comparisons, subjects_at, tags_of}
use Rattle.hdr_compare.specs.Tiers.{tier_of}
use Rattle.hdr_runs.proofs.Reports.{error_of_report}
use Rattle.hdr_runs.proofs.report.Report.new.Goals as goal

pub returns-in_err-pairs_of-clause-errors : goal.returns-in_err-pairs_of-clause-errors
returns-in_err-pairs_of-clause-errors c =
    let before = c.args.before.now in
    let runs = c.args.runs.now in
    let percentiles = c.args.percentiles.now in
    let tags = c.in_ok-tags.tags.items in
    let len : length tags ≡ c.len.result = search (rules, c.len.ensures) in
    let many : length tags ≡ length (tags_of before runs) = sym (length-map tags option_copied) ∙ ap length c.in_ok-tags.ensures.tags in
    let tier : tier_of (comparisons before runs percentiles) ≡ Some c.in-Some.tier =
    ap (λ (n : ℕ). tier_of (n * length runs * length percentiles)) (sym many ∙ len) ∙ sym c.tier_of.ensures.tier ∙ c.in-Some.is in
    let P : List (Option (List ℕ)) → Type 0 = λ ts. IsErrorAt c.in-Some.tier before ts runs percentiles c.in_err-pairs_of.field-0.0 in
    let at = subst P (ap (map option_copied) c.deref.ensures.value ∙ c.in_ok-tags.ensures.tags) c.in_err-pairs_of.ensures.errors in
    let here = error_of_report c.in-Some.tier before runs percentiles c.in_err-pairs_of.field-0.0 tier at in
    search (rules, here, c.from_residual-in_err-pairs_of.ensures)

pub returns-clause-report : goal.returns-clause-report
returns-clause-report c =
    let before = c.args.before.now in
    let runs = c.args.runs.now in
    let percentiles = c.args.percentiles.now in
    let tags = c.in_ok-tags.tags.items in
    let len : length tags ≡ c.len.result = search (rules, c.len.ensures) in
    let many : length tags ≡ length (tags_of before runs) = sym (length-map tags option_copied) ∙ ap length c.in_ok-tags.ensures.tags in
    let P : List (Option (List ℕ)) → Type 0 =
    λ ts. AllZip (IsPairOf c.in-Some.tier before percentiles) (flat_map (subjects_at runs) ts) c.in_ok-pairs_of.field-0.items in
    record {
      tier = ap (λ (n : ℕ). tier_of (n * length runs * length percentiles)) (sym many ∙ len) ∙ sym c.tier_of.ensures.tier ∙ c.in-Some.is;
      pairs = subst P (ap (map option_copied) c.deref.ensures.value ∙ c.in_ok-tags.ensures.tags) c.in_ok-pairs_of.ensures.pairs;
    }
