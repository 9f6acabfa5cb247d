use Rattle.std.proofs.Common.{◌≡◌, ℕ, arith, subst}
use Rattle.hdr_compare.specs.Changes.{ExceedsBy}
use Rattle.hdr_compare.proofs.changes.least_ratio.Goals as goal

pub returns : goal.returns
returns c =
    let kept = c.loop-low.invariant in
    let same : c.loop-low.low ≡ c.loop-low.high = omega (arith, kept.0, c.loop-low-test.false) in (
      c.in_ok-exceeds.ensures.0,
      record {
        within = omega (arith, kept.0, kept.1);
        exceeded = kept.2;
        not_exceeded = λ below exceeds. kept.3 (omega (arith, below, same))
            (subst (λ (n : ℕ). ExceedsBy n 1000 c.args.before.now c.args.after.now) same exceeds);
      },
    )
