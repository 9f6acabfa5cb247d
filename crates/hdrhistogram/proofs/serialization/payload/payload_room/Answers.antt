use Rattle.std.proofs.Common.{◌≡◌, ◌∙◌, length, length-take-le, take, sym, ap, arith}
use Rattle.std.proofs.lemmas.List.{length-take, take-map}
use Rattle.hdrhistogram.specs.Payload.{nonempty}
use Rattle.hdrhistogram.specs.V2.{written_bins}
use Rattle.hdrhistogram.proofs.PayloadWriting.{enough-each, enough-parts}
use Rattle.hdrhistogram.proofs.serialization.payload.payload_room.Goals as goal

pub returns-then-bins-le-SMALL_ROOM-clause-enough : goal.returns-then-bins-le-SMALL_ROOM-clause-enough
returns-then-bins-le-SMALL_ROOM-clause-enough g c =
    let h = c.args.h.now in
    let size = length-take (written_bins h) h.counts in
    enough-each (take (written_bins h) h.counts) c.written_bins-bins.result (omega (arith, size, c.written_bins-bins.ensures.value))

pub returns-clause-enough : goal.returns-clause-enough
returns-clause-enough g c =
    let h = c.args.h.now in
    let bins = c.written_bins-bins.result in
    let is = c.written_bins-bins.ensures.value in
    let size : length (take (written_bins h) h.counts) ≡ bins = length-take-le (written_bins h) h.counts (omega (arith, is, c.written_bins-bins.ensures.within)) ∙ sym is in
    let full : c.nonempty.result ≡ nonempty (take (written_bins h) h.counts) =
    c.nonempty.ensures.value ∙ ap nonempty (sym (take-map g.T.Counter.number bins c.counters.result.now) ∙ ap (take bins) c.counters.ensures ∙ ap (λ n. take n h.counts) is) in
    omega (arith, enough-parts (take (written_bins h) h.counts) bins c.nonempty.result c.min.result size full c.min.ensures)

pub returns-clause-near : goal.returns-clause-near
returns-clause-near g c =
    let h = c.args.h.now in
    let bins = c.written_bins-bins.result in
    let is = c.written_bins-bins.ensures.value in
    let size : length (take (written_bins h) h.counts) ≡ bins = length-take-le (written_bins h) h.counts (omega (arith, is, c.written_bins-bins.ensures.within)) ∙ sym is in
    let full : c.nonempty.result ≡ nonempty (take (written_bins h) h.counts) =
    c.nonempty.ensures.value ∙ ap nonempty (sym (take-map g.T.Counter.number bins c.counters.result.now) ∙ ap (take bins) c.counters.ensures ∙ ap (λ n. take n h.counts) is) in
    omega (arith, enough-parts (take (written_bins h) h.counts) bins c.nonempty.result c.min.result size full c.min.ensures)
