use Rattle.std.proofs.Common.{◌≡◌, length, drop, sym, subst, arith}
use Rattle.std.specs.List.{AllZip}
use Rattle.hdr_runs.specs.LogCounts.{AddsClasses}
use Rattle.hdr_logs.proofs.Changed.{refilled}
use Rattle.hdr_runs.proofs.LogTags.{counted-more}
use Rattle.hdr_runs.proofs.log_counts.TagCounts.count.Goals as goal

pub returns-then-is_summed-clause-counted : goal.returns-then-is_summed-clause-counted
returns-then-is_summed-clause-counted c = λ levels decimals L S is counted units.
    let old = c.args.self.now in
    let new = c.add_to_each.new.all in
    let R = AddsClasses c.args.samples.factor c.args.samples.histogram.now in
    let each = subst (λ l. AllZip R l new) c.deref_mut.ensures.value c.add_to_each.ensures in
    let many : length new ≡ old.counts.len = omega (arith, c.add_to_each.auto.all, c.deref_mut.ensures.len) in
    let here = subst (AllZip R old.counts.items) (sym (refilled old.counts.len new (drop (length new) old.counts.items) many)) each in
    counted-more levels decimals L S c.args.samples.factor c.args.samples.histogram.now old _ counted units here (λ has. c.add.ensures L S (counted.in_sum has) units.stands)

pub returns-else-is_summed-clause-counted : goal.returns-else-is_summed-clause-counted
returns-else-is_summed-clause-counted c = λ levels decimals L S is counted units.
    let old = c.args.self.now in
    let new = c.add_to_each.new.all in
    let R = AddsClasses c.args.samples.factor c.args.samples.histogram.now in
    let each = subst (λ l. AllZip R l new) c.deref_mut.ensures.value c.add_to_each.ensures in
    let many : length new ≡ old.counts.len = omega (arith, c.add_to_each.auto.all, c.deref_mut.ensures.len) in
    let here = subst (AllZip R old.counts.items) (sym (refilled old.counts.len new (drop (length new) old.counts.items) many)) each in
    counted-more levels decimals L S c.args.samples.factor c.args.samples.histogram.now old _ counted units here (λ has. absurd (cc (has, is, c.if-is_summed.false)))
