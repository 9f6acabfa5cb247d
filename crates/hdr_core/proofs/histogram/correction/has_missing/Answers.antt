use Rattle.std.proofs.Common.{◌≡◌, ◌/◌, ◌<◌, ◌∙◌, ap, arith}
use Rattle.std.proofs.lemmas.Bool.Decides.{nat_tests}
use Rattle.hdr_model.specs.Correction.{missing}
use Rattle.hdr_model.proofs.CorrectionFacts.{missing-down, missing-none, down_to-end}
use Rattle.hdr_core.proofs.histogram.correction.has_missing.Goals as goal

pub returns-then-interval-gt0-clause-none : goal.returns-then-interval-gt0-clause-none
returns-then-interval-gt0-clause-none c = λ off.
    let few : c.args.value / 2 < c.args.interval = grind (arith, nat_tests, off) in
    missing-down c.args.value c.args.interval (omega (arith, c.if-interval-gt0.true)) ∙ down_to-end _ c.args.interval (omega (arith, few))

pub returns-else-interval-gt0-clause-none : goal.returns-else-interval-gt0-clause-none
returns-else-interval-gt0-clause-none c = λ off.
    let none : c.args.interval ≡ 0 = omega (arith, c.if-interval-gt0.false) in
    ap (λ i. missing c.args.value i) none ∙ missing-none c.args.value
