use borrow.Author.Count.{falls}
use Rattle.std.proofs.Common.{refl, rules, min, inl, inr, ◌≡◌, ◌∙◌, ◌+◌, ◌-◌, ◌*◌, ◌<◌, ◌≤◌, ◌++◌, ℕ, length, set, take, drop, map, sum, ap, sym, subst, arith}
use Rattle.std.specs.List.{All}
use Rattle.std.proofs.lemmas.Bool.{cases_lt}
use Rattle.std.proofs.lemmas.List.{length-map, length-set, length-take, length-drop, drop-drop, take_all}
use Rattle.std.proofs.lemmas.List.Elements.{All-take, All-drop}
use Rattle.hdr_counts.specs.Blocks.{capped_sums, AreSums}
use Rattle.hdr_counts.proofs.BlocksBounds.{le_as, lt_as, le_more, block-within, block-begins, block-begin-fits, block-end-fits, sum-offset-fits, part-few, parts-same}
use Rattle.hdr_counts.proofs.BlocksSums.{block-sum, block_past, sum_below-le-sum, sum-fits, AreSums-written}
use Rattle.hdr_counts.proofs.BlocksCapped.{capped-begin, capped-cut, capped-length, capped-fit, capped-fit-under, capped-step, map-part, map-middle}
use Rattle.hdr_counts.proofs.adding.add_sections.Given as given
use Rattle.hdr_counts.proofs.adding.add_sections.Goals as goal
use Rattle.hdr_counts.proofs.adding.add_sections.Goals.{In-loop-k}

-- both lists have the section
own : (g : given.Over) (c : In-loop-k g) → c.loop-k.k < length c.args.sums.now
own g c = omega (arith, c.loop-k-test.true, c.min-k-end.ensures)

other : (g : given.Over) (c : In-loop-k g) → c.loop-k.k < length c.args.more.now
other g c = omega (arith, c.loop-k-test.true, c.min-k-end.ensures)

pub add_section-requires-clause-sum : goal.add_section-requires-clause-sum
add_section-requires-clause-sum g c =
    let n = g.T.Counter.number in
    let a = c.loop-k.k * c.args.section in
    let wide : c.args.section ≡ a + c.args.section - a = omega arith in
    block-sum n c.loop-k.counters c.args.section c.loop-k.k c.loop-k.sums c.loop-k.invariant.sums (omega (arith, own g (goal.at.add_section-requires-clause-sum g c).In-loop-k, c.loop-k.invariant.same)) ∙ ap (λ w. sum (map n (take w (drop a c.loop-k.counters)))) wide

pub add_section-requires-clause-more : goal.add_section-requires-clause-more
add_section-requires-clause-more g c =
    let n = g.F.Counter.number in
    let a = c.loop-k.k * c.args.section in
    let wide : c.args.section ≡ a + c.args.section - a = omega arith in
    block-sum n c.args.source.now c.args.section c.loop-k.k c.args.more.now c.requires.more (other g (goal.at.add_section-requires-clause-more g c).In-loop-k) ∙ ap (λ w. sum (map n (take w (drop a c.args.source.now)))) wide

pub add_section-requires-clause-fits : goal.add_section-requires-clause-fits
add_section-requires-clause-fits g c =
    let k = c.loop-k.k in
    let had = c.loop-k.invariant.sums in
    let more = c.requires.more in
    omega (
      arith,
      had.each k (omega (arith, own g (goal.at.add_section-requires-clause-fits g c).In-loop-k, c.loop-k.invariant.same)),
      sum_below-le-sum (map g.T.Counter.number c.loop-k.counters) ((k + 1) * c.args.section),
      sum-fits (map g.T.Counter.number c.loop-k.counters) had.few had.fits,
      more.each k (other g (goal.at.add_section-requires-clause-fits g c).In-loop-k),
      sum_below-le-sum (map g.F.Counter.number c.args.source.now) ((k + 1) * c.args.section),
      sum-fits (map g.F.Counter.number c.args.source.now) more.few more.fits,
    )

pub add_section-requires-clause-fit : goal.add_section-requires-clause-fit
add_section-requires-clause-fit g c =
    let n = g.T.Counter.number in
    let P = λ (m : ℕ). m ≤ g.T.Counter.greatest in
    let a = c.loop-k.k * c.args.section in
    let w = a + c.args.section - a in
    let all : All P (map n c.loop-k.counters) = subst (λ l. All P l) (sym c.loop-k.invariant.numbers) (capped-fit g.T.Counter.greatest (map n c.args.counters.now) (take a (map g.F.Counter.number c.args.source.now)) c.requires.fit) in
    subst (λ l. All P l) (sym (map-middle n c.loop-k.counters a w)) (All-take P w (drop a (map n c.loop-k.counters)) (All-drop P a (map n c.loop-k.counters) all))

pub loop-k-preserved : goal.loop-k-preserved
loop-k-preserved g c =
    let n = g.T.Counter.number in
    let greatest = g.T.Counter.greatest in
    let xs = c.loop-k.counters in
    let new = c.add_section.new.counters in
    let ms = map n c.args.counters.now in
    let b = c.args.section in
    let k = c.loop-k.k in
    let a = k * b in
    let w = a + b - a in
    let wide : w ≡ b = omega arith in
    let len_m = length-map c.args.counters.now n in
    let len_x = length-map xs n in
    let k_in : k < length c.loop-k.sums = omega (arith, own g (goal.at.loop-k-preserved g c).In-loop-k, c.loop-k.invariant.same) in
    let source : a + b ≤ length c.args.source.now = block-within g.F.Counter.number c.args.source.now b k c.args.more.now c.requires.more (other g (goal.at.loop-k-preserved g c).In-loop-k) in
    let past = block_past b k (length c.loop-k.sums) k_in in
    let room : a + b ≤ length xs = omega (arith, past, c.loop-k.invariant.sums.whole, len_x) in
    let fit : (m : ℕ) → m ≤ greatest → m ≤ 18446744073709551615 = λ m le. omega (arith, g.met.T.Counter.fits) in
    let part_len : length (map n new) ≡ b =
    (let e = ap length c.add_section.ensures.numbers ∙ capped-length greatest (map n (take w (drop a xs))) (map g.F.Counter.number (take w (drop a c.args.source.now))) in
    omega (arith, e, length-map (take w (drop a xs)) n, length-take w (drop a xs), length-drop a xs, room)) in
    let U = λ (m : ℕ). m ≤ 18446744073709551615 in
    let part_fit : All U (map n new) =
    subst (λ l. All U l) (sym c.add_section.ensures.numbers)
    (capped-fit-under greatest 18446744073709551615 (map n (take w (drop a xs))) (map g.F.Counter.number (take w (drop a c.args.source.now))) (omega (arith, g.met.T.Counter.fits))
    (subst (λ l. All U l) (sym (map-middle n xs a w)) (All-take U w (drop a (map n xs)) (All-drop U a (map n xs) c.loop-k.invariant.sums.fits)))) in
    let put : map n (take a xs ++ (new ++ drop w (drop a xs))) ≡ take a (map n xs) ++ (map n new ++ drop (a + b) (map n xs)) =
    ap (λ l. map n (take a xs ++ (new ++ l))) (drop-drop w a xs) ∙ map-part n xs new a (a + w) ∙ ap (λ v. take a (map n xs) ++ (map n new ++ drop (a + v) (map n xs))) wide in
    record {
      numbers = capped-step n g.F.Counter.number xs new c.args.source.now greatest a w b ((k + 1) * b) ms wide (omega arith) (omega (arith, room, len_m)) (omega (arith, source)) c.loop-k.invariant.numbers c.add_section.ensures.numbers;
      sums = subst (λ l. AreSums b l (set c.loop-k.sums k c.add_section.result)) (sym put) (AreSums-written b k (map n xs) (map n new) c.loop-k.sums c.add_section.result c.loop-k.invariant.sums k_in part_len c.add_section.ensures.sum part_fit);
      same = length-set c.loop-k.sums k c.add_section.result ∙ c.loop-k.invariant.same;
    }

pub returns-clause-numbers : goal.returns-clause-numbers
returns-clause-numbers g c =
    let b = c.args.section in
    let k = c.loop-k.k in
    let ms = map g.T.Counter.number c.args.counters.now in
    let ns = map g.F.Counter.number c.args.source.now in
    let greatest = g.T.Counter.greatest in
    let end : k ≡ min (length c.args.sums.now) (length c.args.more.now) = omega (arith, c.min-k-end.ensures, c.loop-k.auto.k-end, c.loop-k-test.false) in
    c.loop-k.invariant.numbers
    ∙ elim (cases_lt (length c.args.sums.now) (length c.args.more.now)) [
      | inl short ↦ (
          let at : k ≡ length c.args.sums.now = omega (arith, end, short) in
          capped-cut greatest (k * b) ms ns (omega (arith, c.requires.sums.whole, ap (λ n. n * b) at))
          )
      | inr long ↦ (
          let at : k ≡ length c.args.more.now = omega (arith, end, long) in
          ap (λ l. capped_sums greatest ms l) (take_all (k * b) ns (omega (arith, c.requires.more.whole, ap (λ n. n * b) at)))
          )
    ]

pub returns-clause-fit : goal.returns-clause-fit
returns-clause-fit g c =
    let P = λ (m : ℕ). m ≤ g.T.Counter.greatest in
    subst (λ l. All P l) (sym c.loop-k.invariant.numbers) (capped-fit g.T.Counter.greatest (map g.T.Counter.number c.args.counters.now) (take (c.loop-k.k * c.args.section) (map g.F.Counter.number c.args.source.now)) c.requires.fit)

pub overflow_mul-from : goal.overflow_mul-from
overflow_mul-from g c = record { fits = block-begin-fits g.T.Counter.number c.args.counters.now c.args.section c.loop-k.k c.args.sums.now c.requires.sums (own g (goal.at.overflow_mul-from g c).In-loop-k) }

pub overflow_add-to : goal.overflow_add-to
overflow_add-to g c = record { fits = block-end-fits g.T.Counter.number c.args.counters.now c.args.section c.loop-k.k c.args.sums.now c.requires.sums (own g (goal.at.overflow_add-to g c).In-loop-k) }

pub slice_bounds-add_section-count : goal.slice_bounds-add_section-count
slice_bounds-add_section-count g c = le_more (c.loop-k.k * c.args.section) c.args.section

pub slice_bounds-add_section-start : goal.slice_bounds-add_section-start
slice_bounds-add_section-start g c = le_more (c.loop-k.k * c.args.section) c.args.section

pub slice_bounds-add_section-end : goal.slice_bounds-add_section-end
slice_bounds-add_section-end g c = le_as _ _ _ (block-within g.T.Counter.number c.args.counters.now c.args.section c.loop-k.k c.args.sums.now c.requires.sums (own g (goal.at.slice_bounds-add_section-end g c).In-loop-k)) c.loop-k.auto.counters

pub offset_bounds-source-from : goal.offset_bounds-source-from
offset_bounds-source-from g c = block-begins g.F.Counter.number c.args.source.now c.args.section c.loop-k.k c.args.more.now c.requires.more (other g (goal.at.offset_bounds-source-from g c).In-loop-k)

pub slice_bounds-add_section-count-in-loop-k : goal.slice_bounds-add_section-count-in-loop-k
slice_bounds-add_section-count-in-loop-k g c = le_more (c.loop-k.k * c.args.section) c.args.section

pub slice_bounds-add_section-start-in-loop-k : goal.slice_bounds-add_section-start-in-loop-k
slice_bounds-add_section-start-in-loop-k g c = le_more (c.loop-k.k * c.args.section) c.args.section

pub slice_bounds-add_section-end-in-loop-k : goal.slice_bounds-add_section-end-in-loop-k
slice_bounds-add_section-end-in-loop-k g c = block-within g.F.Counter.number c.args.source.now c.args.section c.loop-k.k c.args.more.now c.requires.more (other g (goal.at.slice_bounds-add_section-end-in-loop-k g c).In-loop-k)

pub bounds-sums-k : goal.bounds-sums-k
bounds-sums-k g c = lt_as _ _ _ (own g (goal.at.bounds-sums-k g c).In-loop-k) c.loop-k.auto.sums

pub add_section-requires-clause-len : goal.add_section-requires-clause-len
add_section-requires-clause-len g c =
    let k = c.loop-k.k in
    let b = c.args.section in
    let at = (goal.at.add_section-requires-clause-len g c).In-loop-k in
    let first : k * b + b ≤ length c.loop-k.counters = le_as _ _ _ (block-within g.T.Counter.number c.args.counters.now b k c.args.sums.now c.requires.sums (own g at)) c.loop-k.auto.counters in
    parts-same c.loop-k.counters c.args.source.now (k * b) (k * b + b - k * b) (omega (arith, first)) (omega (arith, block-within g.F.Counter.number c.args.source.now b k c.args.more.now c.requires.more (other g at)))

pub add_section-requires-clause-at_most : goal.add_section-requires-clause-at_most
add_section-requires-clause-at_most g c = part-few g.T.Counter.number c.args.counters.now c.loop-k.counters c.args.section _ _ c.args.sums.now c.requires.sums c.loop-k.auto.counters

pub bounds-sums-k-in-loop-k : goal.bounds-sums-k-in-loop-k
bounds-sums-k-in-loop-k g c = lt_as _ _ _ (own g (goal.at.bounds-sums-k-in-loop-k g c).In-loop-k) c.loop-k.auto.sums

pub returns-clause-sums : goal.returns-clause-sums
returns-clause-sums g c = c.loop-k.invariant.sums

pub loop-k-init : goal.loop-k-init
loop-k-init g c = record {
  numbers = capped-begin g.T.Counter.greatest c.args.section (map g.T.Counter.number c.args.counters.now) (map g.F.Counter.number c.args.source.now);
  sums = c.requires.sums;
  same = refl;
}

pub offset_bounds-counters-from : goal.offset_bounds-counters-from
offset_bounds-counters-from g c =
    let here : c.loop-k.k * c.args.section ≤ length c.loop-k.counters = le_as _ _ _ (block-begins g.T.Counter.number c.args.counters.now c.args.section c.loop-k.k c.args.sums.now c.requires.sums (own g (goal.at.offset_bounds-counters-from g c).In-loop-k)) c.loop-k.auto.counters in
    search rules

pub offset_bounds-sums-k : goal.offset_bounds-sums-k
offset_bounds-sums-k g c = record { fits = sum-offset-fits c.args.section c.loop-k.k (map g.T.Counter.number c.args.counters.now) c.args.sums.now c.requires.sums (own g (goal.at.offset_bounds-sums-k g c).In-loop-k) }

pub offset_bounds-more-k : goal.offset_bounds-more-k
offset_bounds-more-k g c = record { fits = sum-offset-fits c.args.section c.loop-k.k (map g.T.Counter.number c.args.counters.now) c.args.sums.now c.requires.sums (own g (goal.at.offset_bounds-more-k g c).In-loop-k) }

pub bounds-more-k : goal.bounds-more-k
bounds-more-k g c = other g (goal.at.bounds-more-k g c).In-loop-k

pub offset_bounds-sums-k-in-loop-k : goal.offset_bounds-sums-k-in-loop-k
offset_bounds-sums-k-in-loop-k g c = record { fits = sum-offset-fits c.args.section c.loop-k.k (map g.T.Counter.number c.args.counters.now) c.args.sums.now c.requires.sums (own g (goal.at.offset_bounds-sums-k-in-loop-k g c).In-loop-k) }

pub loop-k-smaller : goal.loop-k-smaller
loop-k-smaller g c = falls c.min-k-end.result c.loop-k.k c.loop-k-test.true
