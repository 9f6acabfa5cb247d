use Rattle.std.proofs.Common.{◌≤◌, rules, arith, None, refl, sym}
use Rattle.hdr_compare.specs.Counted.{IsCounted}
use Rattle.hdr_compare.specs.Intervals.{IsBasis}
use Rattle.hdr_compare.specs.declared.ends.Basis.{Basis}
use Rattle.hdr_compare.proofs.Intervals.{begins_at, low_end_is}
use Rattle.hdr_compare.proofs.run.Run.least_end.Goals as goal

pub returns-then-begins_after-clause-low : goal.returns-then-begins_after-clause-low
returns-then-begins_after-clause-low c =
    let hs = c.args.self.now.batches.items in
    let under = c.in_ok-under.under in
    let first = c.begins_after.ensures.0 c.if-begins_after.true in
    let counted : IsCounted c.args.tier hs None under = search (rules, c.in_ok-under.ensures, c.deref.ensures.value) in
    let most : c.min-independent.result ≤ under.independent = omega (arith, c.min-independent.ensures) in
    let end = low_end_is hs 0 under _ first counted most c.args.self.now.count in
    search (rules, end, c.at.ensures.value, c.at.ensures.independent)

pub returns-else-begins_after-clause-reached : goal.returns-else-begins_after-clause-reached
returns-else-begins_after-clause-reached c = λ is.
    let hs = c.args.self.now.batches.items in
    let under = c.in_ok-under.under in
    let counted : IsCounted c.args.tier hs None under = search (rules, c.in_ok-under.ensures, c.deref.ensures.value) in
    let basis : Basis = record { samples = c.args.self.now.samples; independent = c.min-independent.result; quantile = c.args.quantile; tier = c.args.tier } in
    let is_basis : IsBasis hs c.args.quantile c.args.tier c.open.result.independent basis =
    record { samples = c.args.self.now.count; independent = sym c.open.ensures.independent; quantile = refl; tier_is = refl } in
    let yes = c.begins_after.ensures.1 (begins_at hs c.args.quantile c.args.tier c.open.result.independent 0 under basis counted is_basis is) in
    cc (yes, c.if-begins_after.false)
