use Rattle.std.proofs.Common.{◌≡◌, ◌≤◌, arith}
use Rattle.std.proofs.lemmas.Bool.{le-leb}
use Rattle.hdr_verdict.specs.Rates.{together, last_of}
use Rattle.hdr_verdict.proofs.Windows.{window-is}
use Rattle.hdr_verdict.proofs.rate.window.Goals as goal

pub returns-then-samples-ge-ENOUGH_SAMPLES : goal.returns-then-samples-ge-ENOUGH_SAMPLES
returns-then-samples-ge-ENOUGH_SAMPLES c =
    let past = c.args.past.now in
    let n = c.loop-cells.cells in
    let enough : 100 ≤ (together (last_of n past)).samples = omega (arith, c.loop-cells.invariant.samples) in
    window-is past n (omega arith) (omega arith) c.loop-cells.invariant.few (λ h. le-leb 100 (together (last_of n past)).samples enough)

pub returns : goal.returns
returns c =
    let past = c.args.past.now in
    let all : c.loop-cells.cells ≡ 64 = omega arith in
    window-is past 64 (omega arith) (omega arith) (λ k h. c.loop-cells.invariant.few k (omega arith)) (λ h. absurd (omega arith))
