use borrow.Author.Count.{falls}
use Rattle.std.proofs.Common.{refl, rules, ◌≡◌, ◌∙◌, ◌+◌, ◌-◌, ◌*◌, ◌<◌, ◌≤◌, ◌++◌, length, set, take, drop, map, sum, replicate, ap, sym, subst, arith}
use Rattle.std.proofs.lemmas.List.{length-map, length-set, length-take, length-drop, length-replicate, drop-drop, take_all}
use Rattle.hdr_counts.specs.Blocks.{AreSums}
use Rattle.hdr_counts.proofs.BlocksBounds.{le_as, lt_as, le_more, block-within, block-begins, block-begin-fits, block-end-fits, sum-offset-fits, zeros-begin}
use Rattle.hdr_counts.proofs.BlocksSums.{block-sum, block_past, AreSums-written, All-zeros, sum-zeros, zeros-written}
use Rattle.hdr_counts.proofs.BlocksCapped.{map-part}
use Rattle.hdr_counts.proofs.clearing.clear_sections.Goals as goal

pub clear_section-requires : goal.clear_section-requires
clear_section-requires g c =
    let n = g.T.Counter.number in
    let a = c.loop-k.k * c.args.section in
    let wide : c.args.section ≡ a + c.args.section - a = omega arith in
    block-sum n c.loop-k.counters c.args.section c.loop-k.k c.loop-k.sums c.loop-k.invariant.sums (omega arith) ∙ ap (λ w. sum (map n (take w (drop a c.loop-k.counters)))) wide

pub loop-k-preserved : goal.loop-k-preserved
loop-k-preserved g c =
    let n = g.T.Counter.number in
    let xs = c.loop-k.counters in
    let new = c.clear_section.new.counters in
    let b = c.args.section in
    let k = c.loop-k.k in
    let a = k * b in
    let w = a + b - a in
    let wide : w ≡ b = omega arith in
    let k_in : k < length c.loop-k.sums = omega arith in
    let past = block_past b k (length c.loop-k.sums) k_in in
    let len_x = length-map xs n in
    let room : a + b ≤ length (map n xs) = omega (arith, past, c.loop-k.invariant.sums.whole) in
    let part_len : length (take w (drop a xs)) ≡ b = omega (arith, length-take w (drop a xs), length-drop a xs, len_x) in
    let part : map n new ≡ replicate b 0 = c.clear_section.ensures ∙ ap (λ l. replicate l 0) part_len in
    let put : map n (take a xs ++ (new ++ drop w (drop a xs))) ≡ take a (map n xs) ++ (replicate b 0 ++ drop (a + b) (map n xs)) =
    ap (λ l. map n (take a xs ++ (new ++ l))) (drop-drop w a xs) ∙ map-part n xs new a (a + w)
    ∙ ap (λ v. take a (map n xs) ++ (map n new ++ drop (a + v) (map n xs))) wide
    ∙ ap (λ l. take a (map n xs) ++ (l ++ drop (a + b) (map n xs))) part in
    let end : (k + 1) * b ≡ a + b = omega arith in
    record {
      zeros = ap (take ((k + 1) * b)) put ∙ ap (λ e. take e (take a (map n xs) ++ (replicate b 0 ++ drop (a + b) (map n xs)))) end
          ∙ zeros-written (map n xs) a b room c.loop-k.invariant.zeros ∙ ap (λ e. replicate e 0) (sym end);
      sums = subst (λ l. AreSums b l (set c.loop-k.sums k 0)) (sym put) (AreSums-written b k (map n xs) (replicate b 0) c.loop-k.sums 0 c.loop-k.invariant.sums k_in (length-replicate b 0) (sym (sum-zeros b)) (All-zeros b));
      same = length-set c.loop-k.sums k 0 ∙ c.loop-k.invariant.same;
    }

pub returns-clause-numbers : goal.returns-clause-numbers
returns-clause-numbers g c =
    let ns = map g.T.Counter.number c.loop-k.counters in
    let len : length ns ≡ c.loop-k.k * c.args.section = c.loop-k.invariant.sums.whole ∙ ap (λ m. m * c.args.section) (let e : length c.loop-k.sums ≡ c.loop-k.k = omega arith in e) in
    sym (take_all (c.loop-k.k * c.args.section) ns (omega (arith, len))) ∙ c.loop-k.invariant.zeros ∙ ap (λ e. replicate e 0) (omega (arith, len, length-map c.loop-k.counters g.T.Counter.number))

pub loop-k-init : goal.loop-k-init
loop-k-init g c = record { zeros = zeros-begin c.args.section (map g.T.Counter.number c.args.counters.now); sums = c.requires; same = refl }

pub overflow_mul-from : goal.overflow_mul-from
overflow_mul-from g c = record { fits = block-begin-fits g.T.Counter.number c.args.counters.now c.args.section c.loop-k.k c.args.sums.now c.requires c.loop-k-test.true }

pub overflow_add-from : goal.overflow_add-from
overflow_add-from g c = record { fits = block-end-fits g.T.Counter.number c.args.counters.now c.args.section c.loop-k.k c.args.sums.now c.requires c.loop-k-test.true }

pub offset_bounds-counters-from : goal.offset_bounds-counters-from
offset_bounds-counters-from g c =
    let here : c.loop-k.k * c.args.section ≤ length c.loop-k.counters = le_as _ _ _ (block-begins g.T.Counter.number c.args.counters.now c.args.section c.loop-k.k c.args.sums.now c.requires c.loop-k-test.true) c.loop-k.auto.counters in
    search rules

pub slice_bounds-clear_section-count : goal.slice_bounds-clear_section-count
slice_bounds-clear_section-count g c = le_more (c.loop-k.k * c.args.section) c.args.section

pub slice_bounds-clear_section-start : goal.slice_bounds-clear_section-start
slice_bounds-clear_section-start g c = le_more (c.loop-k.k * c.args.section) c.args.section

pub slice_bounds-clear_section-end : goal.slice_bounds-clear_section-end
slice_bounds-clear_section-end g c = le_as _ _ _ (block-within g.T.Counter.number c.args.counters.now c.args.section c.loop-k.k c.args.sums.now c.requires c.loop-k-test.true) c.loop-k.auto.counters

pub offset_bounds-sums-k : goal.offset_bounds-sums-k
offset_bounds-sums-k g c = record { fits = sum-offset-fits c.args.section c.loop-k.k (map g.T.Counter.number c.args.counters.now) c.args.sums.now c.requires c.loop-k-test.true }

pub bounds-sums-k : goal.bounds-sums-k
bounds-sums-k g c = lt_as _ _ _ c.loop-k-test.true c.loop-k.auto.sums

pub offset_bounds-sums-k-in-loop-k : goal.offset_bounds-sums-k-in-loop-k
offset_bounds-sums-k-in-loop-k g c = record { fits = sum-offset-fits c.args.section c.loop-k.k (map g.T.Counter.number c.args.counters.now) c.args.sums.now c.requires c.loop-k-test.true }

pub bounds-sums-k-in-loop-k : goal.bounds-sums-k-in-loop-k
bounds-sums-k-in-loop-k g c = lt_as _ _ _ c.loop-k-test.true c.loop-k.auto.sums

pub loop-k-smaller : goal.loop-k-smaller
loop-k-smaller g c = falls (length c.args.sums.now) c.loop-k.k c.loop-k-test.true

pub returns-clause-sums : goal.returns-clause-sums
returns-clause-sums g c = c.loop-k.invariant.sums
