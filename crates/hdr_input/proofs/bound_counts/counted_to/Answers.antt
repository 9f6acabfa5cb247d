use Rattle.std.proofs.Common.{◌+◌, ◌%◌, ◌^◌, ℕ, ap, ◌∙◌, sym, take}
use Rattle.std.proofs.Math.Nat.{mod-add-mod}
use Rattle.hdr_input.proofs.Counting.{counted-more}
use Rattle.hdr_input.specs.Bounds.{counted_to}
use Rattle.hdr_input.proofs.bound_counts.counted_to.Goals as goal

pub loop-count-preserved : goal.loop-count-preserved
loop-count-preserved c =
    let before : ℕ = counted_to c.args.end (take c.loop-count.count-index c.args.counts.now) in
    ap (λ n. (n + c.count_to-counted.result) % 2 ^ 64) c.loop-count.invariant
    ∙ mod-add-mod before (2 ^ 64) c.count_to-counted.result
    ∙ ap (λ n. (before + n) % 2 ^ 64) c.count_to-counted.ensures
    ∙ ap (λ n. n % 2 ^ 64) (sym (counted-more c.args.end c.args.counts.now c.loop-count.count-index _ c.loop-count-test.true))
