use borrow.Author.Count.{falls}
use Rattle.std.proofs.Common.{map, ◌≡◌, ◌+◌, ◌-◌, ◌*◌, ◌<◌, length, drop, ap, arith}
use Rattle.std.proofs.lemmas.List.{length-take}
use Rattle.hdr_counts.proofs.BlocksBounds.{le_more, block-within, block-begins, block-begin-fits, block-end-fits, sum-offset-fits, block-place-few, below-64, part-end, back-lt, back-some, back-le}
use Rattle.hdr_counts.proofs.BlocksNonzero.{part-at-most, zeros-before, last-before}
use Rattle.hdr_counts.proofs.ends.last_place.Goals as goal

pub last_of-requires : goal.last_of-requires
last_of-requires g c =
    let k = length c.args.sums.now - 1 - c.loop-passed.passed in
    let a = k * c.args.section in
    part-at-most g.T.Counter.number c.args.counters.now c.args.sums.now c.args.section k a (a + c.args.section - a) c.requires (omega arith) (omega arith) (omega arith)

pub returns-in-Some-clause-index : goal.returns-in-Some-clause-index
returns-in-Some-clause-index g c =
    let b = c.args.section in
    let k = length c.args.sums.now - 1 - c.loop-passed.passed in
    let a = k * b in
    let w = a + b - a in
    let next : length c.args.sums.now - c.loop-passed.passed ≡ k + 1 = omega arith in
    let end : (length c.args.sums.now - c.loop-passed.passed) * b ≡ a + w = omega (arith, ap (λ n. n * b) next) in
    let inside : c.in-Some.i < w = omega (arith, c.in-Some.ensures.within, length-take w (drop a c.args.counters.now)) in
    last-before g.T.Counter.number c.args.counters.now a w _ c.in-Some.i end inside c.in-Some.ensures.index c.loop-passed.invariant

pub loop-passed-preserved : goal.loop-passed-preserved
loop-passed-preserved g c = λ j ge.
    let b = c.args.section in
    let k = length c.args.sums.now - 1 - c.loop-passed.passed in
    let a = k * b in
    let w = a + b - a in
    let next : length c.args.sums.now - c.loop-passed.passed ≡ k + 1 = omega arith in
    let end : (length c.args.sums.now - c.loop-passed.passed) * b ≡ a + w = omega (arith, ap (λ n. n * b) next) in
    let same : length c.args.sums.now - (c.loop-passed.passed + 1) ≡ k = omega arith in
    zeros-before g.T.Counter.number c.args.counters.now a w _ end c.in_default.ensures.index c.loop-passed.invariant j (omega (arith, ge, ap (λ n. n * b) same))

pub overflow_sub-k : goal.overflow_sub-k
overflow_sub-k g c = back-some (length c.args.sums.now) c.loop-passed.passed c.loop-passed-test.true

pub overflow_sub-k-in-loop-passed : goal.overflow_sub-k-in-loop-passed
overflow_sub-k-in-loop-passed g c = back-le (length c.args.sums.now) c.loop-passed.passed c.loop-passed-test.true

pub overflow_mul-from : goal.overflow_mul-from
overflow_mul-from g c = record { fits = block-begin-fits g.T.Counter.number c.args.counters.now c.args.section (length c.args.sums.now - 1 - c.loop-passed.passed) c.args.sums.now c.requires (back-lt (length c.args.sums.now) c.loop-passed.passed c.loop-passed-test.true) }

pub overflow_add-from : goal.overflow_add-from
overflow_add-from g c = record { fits = block-end-fits g.T.Counter.number c.args.counters.now c.args.section (length c.args.sums.now - 1 - c.loop-passed.passed) c.args.sums.now c.requires (back-lt (length c.args.sums.now) c.loop-passed.passed c.loop-passed-test.true) }

pub offset_bounds-counters-from : goal.offset_bounds-counters-from
offset_bounds-counters-from g c = block-begins g.T.Counter.number c.args.counters.now c.args.section (length c.args.sums.now - 1 - c.loop-passed.passed) c.args.sums.now c.requires (back-lt (length c.args.sums.now) c.loop-passed.passed c.loop-passed-test.true)

pub slice_bounds-last_of-count : goal.slice_bounds-last_of-count
slice_bounds-last_of-count g c = le_more ((length c.args.sums.now - 1 - c.loop-passed.passed) * c.args.section) c.args.section

pub slice_bounds-last_of-start : goal.slice_bounds-last_of-start
slice_bounds-last_of-start g c = le_more ((length c.args.sums.now - 1 - c.loop-passed.passed) * c.args.section) c.args.section

pub slice_bounds-last_of-end : goal.slice_bounds-last_of-end
slice_bounds-last_of-end g c = block-within g.T.Counter.number c.args.counters.now c.args.section (length c.args.sums.now - 1 - c.loop-passed.passed) c.args.sums.now c.requires (back-lt (length c.args.sums.now) c.loop-passed.passed c.loop-passed-test.true)

pub offset_bounds-sums-k : goal.offset_bounds-sums-k
offset_bounds-sums-k g c = record { fits = sum-offset-fits c.args.section (length c.args.sums.now - 1 - c.loop-passed.passed) (map g.T.Counter.number c.args.counters.now) c.args.sums.now c.requires (back-lt (length c.args.sums.now) c.loop-passed.passed c.loop-passed-test.true) }

pub bounds-sums-k : goal.bounds-sums-k
bounds-sums-k g c = back-lt (length c.args.sums.now) c.loop-passed.passed c.loop-passed-test.true

pub overflow_add-result : goal.overflow_add-result
overflow_add-result g c = record { fits = below-64 _ (block-place-few g.T.Counter.number c.args.counters.now c.args.section (length c.args.sums.now - 1 - c.loop-passed.passed) ((length c.args.sums.now - 1 - c.loop-passed.passed) * c.args.section) _ c.in-Some.i c.args.sums.now c.requires (back-lt (length c.args.sums.now) c.loop-passed.passed c.loop-passed-test.true) (part-end _ _ (le_more ((length c.args.sums.now - 1 - c.loop-passed.passed) * c.args.section) c.args.section)) c.in-Some.ensures.within) }

pub returns-in-Some-clause-within : goal.returns-in-Some-clause-within
returns-in-Some-clause-within g c = block-place-few g.T.Counter.number c.args.counters.now c.args.section (length c.args.sums.now - 1 - c.loop-passed.passed) ((length c.args.sums.now - 1 - c.loop-passed.passed) * c.args.section) _ c.in-Some.i c.args.sums.now c.requires (back-lt (length c.args.sums.now) c.loop-passed.passed c.loop-passed-test.true) (part-end _ _ (le_more ((length c.args.sums.now - 1 - c.loop-passed.passed) * c.args.section) c.args.section)) c.in-Some.ensures.within

pub loop-passed-smaller : goal.loop-passed-smaller
loop-passed-smaller g c = falls (length c.args.sums.now) c.loop-passed.passed c.loop-passed-test.true
