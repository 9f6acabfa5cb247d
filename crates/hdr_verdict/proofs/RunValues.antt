-- The value of a tail in the samples of a run is above the threshold.
use Rattle.std.proofs.Common.{◌≡◌, ℕ, zero, suc, ◌+◌, ◌-◌, ◌*◌, ◌<◌, ◌≤◌, Bool, true, false, cond, ltb, if◌then◌else◌, List, [], ◌∷◌, ◌++◌, length, map, take, drop, get_or, count_by, refl, sym, ap, subst, ◌∙◌, arith, add-one, length-append}
use Rattle.std.specs.List.{AllByRecursion, flat_map, range_with_len, slice_range, sum_by}
use Rattle.std.proofs.lemmas.List.FromFn.{length-map-range_with_len, take-map-range_with_len, sum_by-map-range_with_len_more}
use Rattle.std.proofs.lemmas.List.Sums.{sum_by-append}
use Rattle.std.proofs.Math.Nat.{mul-add}
use Rattle.std.proofs.lemmas.Nat.{mul-le}
use Rattle.hdr_verdict.specs.declared.runs.Run.{Run}
use Rattle.hdr_verdict.specs.declared.score.Score.{Score}
use Rattle.hdr_verdict.specs.declared.slow.Test.{Test}
use Rattle.hdr_verdict.specs.Runs.{AreInOrder, ReachesBar, gain_of, loss_of, runs_of}
use Rattle.hdr_verdict.specs.Slow.{bar_of, kept, samples_in, score_of, scores_of, value_in}
use Rattle.hdr_verdict.specs.Tails.{count_above}
use Rattle.hdr_verdict.proofs.CellSamples.{flat-range-suc}
use Rattle.hdr_verdict.proofs.RunOrder.{runs-in-order}
use Rattle.hdr_verdict.proofs.RunSums.{runs-reach-bar}
use Rattle.hdr_verdict.proofs.TailFacts.{tail-above}

drop-none : {X : Type 0} (xs : List X) → drop 0 xs ≡ xs
drop-none xs = refl

drop-range : {X : Type 0} (f : ℕ → X) (a n k : ℕ) → k ≤ n → drop k (map f (range_with_len a n)) ≡ map f (range_with_len (a + k) (n - k))
drop-range f a n zero le =
    drop-none (map f (range_with_len a n)) ∙ ap (λ m. map f (range_with_len m n)) (let e : a ≡ a + 0 = omega arith in e) ∙ ap (λ m. map f (range_with_len (a + 0) m)) (let e : n ≡ n - 0 = omega arith in e)
drop-range f a zero (suc k) le = absurd (omega arith)
drop-range f a (suc n) (suc k) le =
    drop-range f (a + 1) n k (omega arith) ∙ ap (λ m. map f (range_with_len m (n - k))) (let e : a + 1 + k ≡ a + suc k = omega arith in e)
    ∙ ap (λ m. map f (range_with_len (a + suc k) m)) (let e : n - k ≡ suc n - suc k = omega arith in e)

-- the scores of a run
slice-scores : {X : Type 0} (f : ℕ → X) (n : ℕ) (run : Run) → run.start ≤ run.end → run.end ≤ n → slice_range (map f (range_with_len 0 n)) run.start run.end ≡ map f (range_with_len run.start (run.end - run.start))
slice-scores f n run order within =
    ap (take (run.end - run.start)) (drop-range f 0 n run.start (omega arith) ∙ ap (λ k. map f (range_with_len k (n - run.start))) (let e : 0 + run.start ≡ run.start = omega arith in e))
    ∙ take-map-range_with_len f run.start (n - run.start) (run.end - run.start) (omega arith)

above-append : (v : ℕ) (S T : List ℕ) → count_above v (S ++ T) ≡ count_above v S + count_above v T
unfolding count_above
above-append v S T = sum_by-append (λ s. cond (ltb v s) 1 0) S T

above-none : (v : ℕ) → count_above v [] ≡ 0
unfolding count_above
above-none v = refl

-- the gain and the loss of a cell are of the samples that it keeps
gain-one : (test : Test) (explained : Bool) (cell : List ℕ) → (score_of test explained cell).gain ≡ test.tail.den * count_above test.threshold (if explained then [] else cell)
gain-one test true cell = (let none = ap (λ n. test.tail.den * n) (above-none test.threshold) in omega (arith, none))
gain-one test false cell = refl

loss-one : (test : Test) (explained : Bool) (cell : List ℕ) → (score_of test explained cell).loss ≡ test.tail.num * length (if explained then [] else cell)
loss-one test true cell = omega arith
loss-one test false cell = refl

abbrev pub score_at : Test → List Bool → List (List ℕ) → ℕ → Score
score_at test explained cells i = score_of test (get_or explained i false) (get_or cells i [])

gains-range : (test : Test) (explained : List Bool) (cells : List (List ℕ)) (a n : ℕ)
    → sum_by (λ (score : Score). score.gain) (map (score_at test explained cells) (range_with_len a n)) ≡ test.tail.den * count_above test.threshold (flat_map (kept cells explained) (range_with_len a n))
gains-range test explained cells a zero = (let none = ap (λ n. test.tail.den * n) (above-none test.threshold) in omega (arith, none))
gains-range test explained cells a (suc n) =
    let f = score_at test explained cells in
    let g : Score → ℕ = λ score. score.gain in
    let k = kept cells explained in
    let den = test.tail.den in
    let T = test.threshold in
    let X = flat_map k (range_with_len a n) in
    let before = gains-range test explained cells a n in
    let more = ap (λ m. sum_by g (map f (range_with_len a m))) (sym (add-one n)) ∙ sum_by-map-range_with_len_more g f a n (a + n) (omega arith) in
    let samples = ap (count_above T) (flat-range-suc k a n) ∙ above-append T X (k (a + n)) in
    let both = ap (λ m. den * m) samples ∙ mul-add den (count_above T X) (count_above T (k (a + n))) in
    let one = gain-one test (get_or explained (a + n) false) (get_or cells (a + n) []) in
    omega (arith, before, more, both, one)

losses-range : (test : Test) (explained : List Bool) (cells : List (List ℕ)) (a n : ℕ)
    → sum_by (λ (score : Score). score.loss) (map (score_at test explained cells) (range_with_len a n)) ≡ test.tail.num * length (flat_map (kept cells explained) (range_with_len a n))
losses-range test explained cells a zero = omega arith
losses-range test explained cells a (suc n) =
    let f = score_at test explained cells in
    let g : Score → ℕ = λ score. score.loss in
    let k = kept cells explained in
    let num = test.tail.num in
    let X = flat_map k (range_with_len a n) in
    let before = losses-range test explained cells a n in
    let more = ap (λ m. sum_by g (map f (range_with_len a m))) (sym (add-one n)) ∙ sum_by-map-range_with_len_more g f a n (a + n) (omega arith) in
    let samples = ap length (flat-range-suc k a n) ∙ length-append X (k (a + n)) in
    let both = ap (λ m. num * m) samples ∙ mul-add num (length X) (length (k (a + n))) in
    let one = loss-one test (get_or explained (a + n) false) (get_or cells (a + n) []) in
    omega (arith, before, more, both, one)

-- if the scores of a run sum to more than 0, the value of its own samples is above the threshold
pub run-is-above : (bar : ℕ) (test : Test) (explained : List Bool) (cells : List (List ℕ)) (run : Run) → 0 < bar → run.start ≤ run.end → run.end ≤ length cells
    → ReachesBar bar (scores_of test explained cells) run → test.threshold < value_in test cells explained run
run-is-above bar test explained cells run some order within reaches =
    let f = score_at test explained cells in
    let n = run.end - run.start in
    let slice = slice-scores f (length cells) run order within in
    let gain = ap (sum_by (λ (score : Score). score.gain)) slice ∙ gains-range test explained cells run.start n in
    let loss = ap (sum_by (λ (score : Score). score.loss)) slice ∙ losses-range test explained cells run.start n in
    let S = samples_in cells explained run in
    (tail-above test.tail.num test.tail.den test.threshold S test.tail.proper).0 (omega (arith, reaches, gain, loss))

order-ends : (from end : ℕ) (runs : List Run) → AreInOrder from end runs → from ≤ end
order-ends from end [] order = order
order-ends from end (run ∷ runs) order = omega (arith, order.0, order.1, order-ends run.end end runs order.2)

all-above : (bar from : ℕ) (test : Test) (explained : List Bool) (cells : List (List ℕ)) (runs : List Run) → 0 < bar → AreInOrder from (length cells) runs
    → AllByRecursion (ReachesBar bar (scores_of test explained cells)) runs → AllByRecursion (λ (run : Run). test.threshold < value_in test cells explained run) runs
all-above bar from test explained cells [] some order reaches = tt
all-above bar from test explained cells (run ∷ runs) some order reaches =
    let first : run.start < run.end = order.1 in
    (run-is-above bar test explained cells run some (omega arith) (order-ends run.end (length cells) runs order.2) reaches.0, all-above bar run.end test explained cells runs some order.2 reaches.1)

pub runs-are-above : (bar : ℕ) (test : Test) (explained : List Bool) (cells : List (List ℕ)) → 0 < bar
    → AllByRecursion (λ (run : Run). test.threshold < value_in test cells explained run) (runs_of (bar_of bar test.tail) (scores_of test explained cells))
runs-are-above bar test explained cells some =
    let scores = scores_of test explained cells in
    let sum = bar_of bar test.tail in
    let part : 1 * 1 ≤ sum = mul-le 1 1 bar (test.tail.den - test.tail.num) (omega arith) (let p : test.tail.num < test.tail.den = test.tail.proper in omega arith) in
    let pos : 0 < sum = omega (arith, part) in
    let order = subst (λ n. AreInOrder 0 n (runs_of sum scores)) (length-map-range_with_len (score_at test explained cells) 0 (length cells)) (runs-in-order sum scores) in
    all-above sum 0 test explained cells (runs_of sum scores) pos order (runs-reach-bar sum scores pos)
