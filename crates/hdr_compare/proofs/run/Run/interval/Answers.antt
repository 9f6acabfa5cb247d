use Rattle.std.proofs.Common.{arith, rules, Some, subst, sym}
use Rattle.hdr_compare.specs.Counted.{IsCounted}
use Rattle.hdr_compare.specs.Intervals.{IsCountOf, before}
use Rattle.hdr_base.specs.Classes.{lowest_of}
use Rattle.hdr_model.specs.Plain.{resolution}
use Rattle.hdr_compare.proofs.Intervals.{counts_by, least_count_of}
use Rattle.hdr_compare.proofs.run.Run.interval.Goals as goal

pub returns-clause-counts : goal.returns-clause-counts
returns-clause-counts c =
    let hs = c.args.self.now.batches.items in
    let tier = c.args.tier in
    let below = c.checked_sub-below.result in
    let value = c.value_at_quantile-value.result in
    let under = c.in_ok-under.under in
    let upto = c.in_ok-upto.upto in
    let counted-below : IsCounted tier hs below under = search (rules, c.in_ok-under.ensures, c.deref.ensures.value) in
    let counted : IsCounted tier hs (Some value) upto = search (rules, c.in_ok-upto.ensures, c.deref-2.ensures.value) in
    let least : IsCountOf hs tier c.min-independent.result =
    subst (IsCountOf hs tier) (sym c.min-independent.ensures) (least_count_of hs tier below (Some value) under upto counted-below counted) in
    record {
      low = counts_by hs tier c.min-independent.result c.in_ok-low_end.field-0.independent least c.in_ok-low_end.ensures.counts;
      high = counts_by hs tier c.min-independent.result c.in_ok-high_end.field-0.independent least c.in_ok-high_end.ensures.counts;
    }

pub returns-clause-by_value : goal.returns-clause-by_value
returns-clause-by_value c =
    let hs = c.args.self.now.batches.items in
    let tier = c.args.tier in
    let value = c.value_at_quantile-value.result in
    let under = c.in_ok-under.under in
    let upto = c.in_ok-upto.upto in
    let least = c.min-independent.ensures in
    let counted-below : IsCounted tier hs (before (lowest_of (resolution c.args.self.now.all) value)) under =
    search (rules, c.in_ok-under.ensures, c.deref.ensures.value, c.checked_sub-below.ensures, c.lowest_equivalent.ensures) in
    let counted : IsCounted tier hs (Some value) upto = search (rules, c.in_ok-upto.ensures, c.deref-2.ensures.value) in
    record {
      below = under;
      counted_below = counted-below;
      upto = upto;
      counted_upto = counted;
      low = omega (arith, least, c.in_ok-low_end.ensures.independent);
      high = omega (arith, least, c.in_ok-high_end.ensures.independent);
    }

pub returns-clause-nearest : goal.returns-clause-nearest
returns-clause-nearest c = record { low = c.in_ok-low_end.ensures.nearest; high = c.in_ok-high_end.ensures.nearest }
