use Rattle.std.proofs.Common.{◌≡◌, ℕ, ◌^◌, ◌<◌, ◌≤◌, arith, ◌∙◌, ◌++◌, sym, subst, take, drop, ap, List, length, get_or, length-take-le}
use Rattle.std.proofs.lemmas.List.{get_or-take, take-map}
use Rattle.std.proofs.lemmas.Grind.{common_steps}
use Rattle.hdrhistogram.specs.Payload.{IsPayload, enough_bytes}
use Rattle.hdrhistogram.proofs.V2Bins.{all-small}
use Rattle.hdrhistogram.proofs.PayloadWriting.{encode_start, encode_run, encode_full, encode_end, empty_from, run_is, count_is, room_for_full, room_for_run, room_for_all}
use Rattle.hdrhistogram.proofs.serialization.payload.encode_within.Goals as goal

pub loop-bin-init : goal.loop-bin-init
loop-bin-init g c = record { encoded = encode_start (take c.written_bins-bins.result c.args.h.now.counts) c.args.buf.now; within = omega arith }

pub write_run-written-requires-clause-capacity : goal.write_run-written-requires-clause-capacity
write_run-written-requires-clause-capacity g c =
    let h = c.args.h.now in
    let bins = c.written_bins-bins.result in
    let counts = take bins h.counts in
    let bin = c.loop-bin.bin in
    let size : length counts ≡ bins = length-take-le bins h.counts c.written_bins-bins.ensures.within in
    let enough : enough_bytes counts ≤ length c.args.buf.now = subst (λ n. enough_bytes (take n h.counts) ≤ length c.args.buf.now) (sym c.written_bins-bins.ensures.value) c.requires in
    let here : c.count_of-count.result ≡ get_or counts bin 0 = c.count_of-count.ensures ∙ ap (λ l. get_or l bin 0) (sym (take-map g.T.Counter.number bins c.counters.result.now) ∙ ap (take bins) c.counters.ensures) in
    let run = room_for_run counts c.loop-bin.buf c.args.buf.now bin c.loop-bin.written (length c.args.buf.now) c.loop-bin.invariant.encoded (omega (arith, size, c.loop-bin-test.true)) (sym here ∙ c.if-count-eq0.true) enough in
    omega (arith, run, c.loop-bin.auto.buf)

pub write_number-written-requires : goal.write_number-written-requires
write_number-written-requires g c =
    let h = c.args.h.now in
    let bins = c.written_bins-bins.result in
    let counts = take bins h.counts in
    let bin = c.loop-bin.bin in
    let size : length counts ≡ bins = length-take-le bins h.counts c.written_bins-bins.ensures.within in
    let enough : enough_bytes counts ≤ length c.args.buf.now = subst (λ n. enough_bytes (take n h.counts) ≤ length c.args.buf.now) (sym c.written_bins-bins.ensures.value) c.requires in
    let here : c.count_of-count.result ≡ get_or counts bin 0 = c.count_of-count.ensures ∙ ap (λ l. get_or l bin 0) (sym (take-map g.T.Counter.number bins c.counters.result.now) ∙ ap (take bins) c.counters.ensures) in
    let full = room_for_full counts c.loop-bin.buf c.args.buf.now bin c.loop-bin.written (length c.args.buf.now) c.loop-bin.invariant.encoded (omega (arith, size, c.loop-bin-test.true)) (λ none. c.if-count-eq0.false (here ∙ none)) enough in
    omega (arith, full, c.loop-bin.auto.buf)

pub loop-bin-preserved-then-count-eq0 : goal.loop-bin-preserved-then-count-eq0
loop-bin-preserved-then-count-eq0 g c =
    let h = c.args.h.now in
    let bins = c.written_bins-bins.result in
    let counts = take bins h.counts in
    let bin = c.loop-bin.bin in
    let filled = c.min-filled.result in
    let size : length counts ≡ bins = length-take-le bins h.counts c.written_bins-bins.ensures.within in
    let here : c.count_of-count.result ≡ get_or counts bin 0 = c.count_of-count.ensures ∙ ap (λ l. get_or l bin 0) (sym (take-map g.T.Counter.number bins c.counters.result.now) ∙ ap (take bins) c.counters.ensures) in
    let next = c.next_filled.result in
    let empty : get_or h.counts bin 0 ≡ 0 = sym (get_or-take bins h.counts bin 0 c.loop-bin-test.true) ∙ sym here ∙ c.if-count-eq0.true in
    let later : bin < next = omega (arith, c.next_filled.ensures.onward) in
    record {
      encoded = encode_run counts _ c.write_run-written.new.buf c.args.buf.now bin filled _ c.write_run-written.result c.loop-bin.invariant.encoded
          (omega (arith, later, c.min-filled.ensures, c.loop-bin-test.true)) (omega (arith, size, c.min-filled.ensures))
          (λ i le lt. get_or-take bins h.counts i 0 (omega (arith, lt, c.min-filled.ensures)) ∙ empty_from h.counts bin next empty c.next_filled.ensures.empty i le (omega (arith, lt, c.min-filled.ensures)))
          (λ before none. absurd (omega (
            arith,
            c.next_filled.ensures.filled (omega (arith, before, size, c.min-filled.ensures, c.written_bins-bins.ensures.within)),
            ap (λ i. get_or h.counts i 0) (let same : filled ≡ next = omega (arith, before, size, c.min-filled.ensures) in same),
            get_or-take bins h.counts filled 0 (omega (arith, before, size)),
            none,
          )))
          c.write_run-written.ensures.further c.write_run-written.ensures.at_most
          (run_is _ _ _ (omega (arith, c.min-filled.ensures, c.written_bins-bins.ensures.at_most)) c.write_run-written.ensures.front) c.write_run-written.ensures.unchanged;
      within = omega (arith, c.min-filled.ensures);
    }

pub loop-bin-preserved : goal.loop-bin-preserved
loop-bin-preserved g c =
    let h = c.args.h.now in
    let bins = c.written_bins-bins.result in
    let counts = take bins h.counts in
    let bin = c.loop-bin.bin in
    let size : length counts ≡ bins = length-take-le bins h.counts c.written_bins-bins.ensures.within in
    let here : c.count_of-count.result ≡ get_or counts bin 0 = c.count_of-count.ensures ∙ ap (λ l. get_or l bin 0) (sym (take-map g.T.Counter.number bins c.counters.result.now) ∙ ap (take bins) c.counters.ensures) in
    let small : c.count_of-count.result < 2 ^ 63 = omega arith in
    record {
      encoded = encode_full counts _ c.write_number-written.new.buf c.args.buf.now bin _ c.write_number-written.result c.loop-bin.invariant.encoded (omega (arith, size, c.loop-bin-test.true))
          (λ none. c.if-count-eq0.false (here ∙ none)) (omega (arith, here, small))
          c.write_number-written.ensures.further c.write_number-written.ensures.at_most
          (count_is c.count_of-count.result (get_or counts bin 0) _ _ here (omega (arith, here, small)) c.write_number-written.ensures.front) c.write_number-written.ensures.unchanged;
      within = omega (arith, c.loop-bin-test.true);
    }

pub returns-clause-written : goal.returns-clause-written
returns-clause-written g c =
    let h = c.args.h.now in
    let bins = c.written_bins-bins.result in
    let counts = take bins h.counts in
    let size : length counts ≡ bins = length-take-le bins h.counts c.written_bins-bins.ensures.within in
    let enough : enough_bytes counts ≤ length c.args.buf.now = subst (λ n. enough_bytes (take n h.counts) ≤ length c.args.buf.now) (sym c.written_bins-bins.ensures.value) c.requires in
    let fits = room_for_all counts c.loop-bin.buf c.args.buf.now c.loop-bin.bin c.loop-bin.written (length c.args.buf.now) c.loop-bin.invariant.encoded (omega (arith, size, c.loop-bin.invariant.within)) enough in
    let all = encode_end counts c.loop-bin.buf c.args.buf.now c.loop-bin.bin c.loop-bin.written c.loop-bin.invariant.encoded (omega (arith, size, c.loop-bin-test.false)) (omega (arith, size, c.written_bins-bins.ensures.at_most))
    (omega (arith, fits, c.loop-bin.auto.buf)) in
    subst (λ n. (text : List ℕ) × IsPayload (take n h.counts) text × (c.loop-bin.written ≡ length text) × (c.loop-bin.buf ≡ text ++ drop c.loop-bin.written c.args.buf.now)) c.written_bins-bins.ensures.value all

pub returns-clause-ok : goal.returns-clause-ok
returns-clause-ok g c =
    let h = c.args.h.now in
    let small = subst (λ n. (k : ℕ) → k < n → get_or (take n h.counts) k 0 < 2 ^ 63) c.written_bins-bins.ensures.value (λ k lt. c.loop-bin.invariant.encoded.small k (omega (arith, lt, c.loop-bin-test.false))) in
    all-small g.T.Counter.greatest (2 ^ 63) h (omega arith) c.written_bins-bins.ensures.plain small

pub write_run-written-requires-clause-nonzero : goal.write_run-written-requires-clause-nonzero
write_run-written-requires-clause-nonzero g c = omega (arith, c.next_filled.ensures.onward, c.min-filled.ensures, c.loop-bin-test.true)

pub loop-bin-smaller-then-count-eq0 : goal.loop-bin-smaller-then-count-eq0
loop-bin-smaller-then-count-eq0 g c = omega (arith, c.next_filled.ensures.onward, c.min-filled.ensures, c.loop-bin-test.true)

pub returns-then-count-gt-GREATEST_COUNT-clause-err : goal.returns-then-count-gt-GREATEST_COUNT-clause-err
returns-then-count-gt-GREATEST_COUNT-clause-err g c =
    let h = c.args.h.now in
    let bins = c.written_bins-bins.result in
    let bin = c.loop-bin.bin in
    let read : c.count_of-count.result ≡ get_or (take bins h.counts) bin 0 = c.count_of-count.ensures ∙ ap (λ l. get_or l bin 0) (sym (take-map g.T.Counter.number bins c.counters.result.now) ∙ ap (take bins) c.counters.ensures) in
    let inside : bin < length h.counts = omega (arith, c.loop-bin-test.true, c.written_bins-bins.ensures.within) in
    let here : c.count_of-count.result ≡ get_or h.counts bin 0 = read ∙ get_or-take bins h.counts bin 0 c.loop-bin-test.true in
    grind (arith, common_steps)
