use Rattle.std.proofs.Common.{◌≤◌, ◌-◌, ◌^◌, rules, arith, Some, refl, sym}
use Rattle.hdr_compare.specs.Counted.{IsCounted}
use Rattle.hdr_compare.specs.Intervals.{IsBasis}
use Rattle.hdr_compare.specs.declared.ends.Basis.{Basis}
use Rattle.hdr_compare.proofs.Intervals.{ends_at, high_end_is}
use Rattle.hdr_compare.proofs.run.Run.greatest_end.Goals as goal

pub returns-then-ends_with-clause-high : goal.returns-then-ends_with-clause-high
returns-then-ends_with-clause-high c =
    let hs = c.args.self.now.batches.items in
    let upto = c.in_ok-upto.upto in
    let last = c.ends_with.ensures.0 c.if-ends_with.true in
    let counted : IsCounted c.args.tier hs (Some (2 ^ 64 - 1)) upto = search (rules, c.in_ok-upto.ensures, c.deref.ensures.value) in
    let most : c.min-independent.result ≤ upto.independent = omega (arith, c.min-independent.ensures) in
    let end = high_end_is hs (2 ^ 64 - 1) upto _ last counted most c.args.self.now.count in
    search (rules, end, c.at.ensures.value, c.at.ensures.independent)

pub returns-else-ends_with-clause-reached : goal.returns-else-ends_with-clause-reached
returns-else-ends_with-clause-reached c = λ is.
    let hs = c.args.self.now.batches.items in
    let upto = c.in_ok-upto.upto in
    let counted : IsCounted c.args.tier hs (Some (2 ^ 64 - 1)) upto = search (rules, c.in_ok-upto.ensures, c.deref.ensures.value) in
    let basis : Basis = record { samples = c.args.self.now.samples; independent = c.min-independent.result; quantile = c.args.quantile; tier = c.args.tier } in
    let is_basis : IsBasis hs c.args.quantile c.args.tier c.open.result.independent basis =
    record { samples = c.args.self.now.count; independent = sym c.open.ensures.independent; quantile = refl; tier_is = refl } in
    let yes = c.ends_with.ensures.1 (ends_at hs c.args.quantile c.args.tier c.open.result.independent (2 ^ 64 - 1) upto basis counted is_basis is) in
    cc (yes, c.if-ends_with.false)
