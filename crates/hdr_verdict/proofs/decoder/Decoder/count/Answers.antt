use Rattle.std.proofs.Common.{◌≡◌, ◌∙◌, ◌+◌, ◌<◌, ap, sym, refl, subst, arith, ◌-◌, ◌^◌, length, map, min, get_or, take_all}
use Rattle.std.proofs.lemmas.List.{length_push}
use Rattle.hdr_verdict.specs.Samples.{AreHeld, nothing_held, width_of}
use Rattle.hdr_verdict.specs.ClassSamples.{values_of}
use Rattle.hdr_verdict.specs.Decoders.{intervals_of}
use Rattle.hdr_verdict.proofs.ClassFacts.{held-long}
use Rattle.hdr_verdict.proofs.Holding.{count-more, finest-scale, as-many, refs-many, samples_in}
use Rattle.hdr_verdict.proofs.decoder.Decoder.count.Goals as goal

pub loop-index-init : goal.loop-index-init
loop-index-init c = record {
  intervals = refl;
  many = ap length c.new-samples.ensures.items;
  scale = finest-scale;
  counts = λ all held. (c.new-samples.ensures.items, refl);
}

pub loop-index-preserved : goal.loop-index-preserved
loop-index-preserved c = record {
  intervals = c.decode.ensures.intervals ∙ c.loop-index.invariant.intervals;
  many = ap length c.in_ok-push.ensures.items ∙ length_push c.loop-index.samples.items c.total_of.result ∙ ap (λ n. n + 1) c.loop-index.invariant.many;
  scale = c.join-width.ensures.scale c.loop-index.invariant.scale c.in_ok-bounds.ensures.scale;
  counts = λ all held.
      let here = subst (λ l. AreHeld l all) (sym c.loop-index.invariant.intervals) held in
      let is = c.in_ok-bounds.ensures.held all here in
      let so-far = c.loop-index.invariant.counts all held in
      let many = refs-many c.intervals-index-end.result.now (intervals_of c.args.self.now) c.intervals-index-end.ensures in
      let inside : c.loop-index.index < length all = omega (arith, many, as-many (intervals_of c.args.self.now) all held, c.loop-index-test.true) in
      let one : c.total_of.result ≡ samples_in (get_or all c.loop-index.index nothing_held) = c.total_of.ensures ∙ ap (λ l. min (length (values_of l)) (2 ^ 64 - 1)) c.deref.ensures.value ∙ held-long (get_or all c.loop-index.index nothing_held) c.in_ok-bounds.bounds c.clear.new.self.items c.decode.new.classes.items is c.clear.ensures.items in
      let more = count-more all c.loop-index.index c.loop-index.samples.items c.loop-index.width c.join-width.result c.total_of.result inside so-far.0 so-far.1 one (c.join-width.ensures.width (get_or all c.loop-index.index nothing_held) is.low is.sigfig) in
      (c.in_ok-push.ensures.items ∙ more.0, more.1);
}

pub decode-requires : goal.decode-requires
decode-requires c =
    let many = refs-many c.intervals-index-end.result.now (intervals_of c.args.self.now) c.intervals-index-end.ensures in
    omega (arith, many, c.loop-index-test.true, ap length c.loop-index.invariant.intervals)

pub returns-clause-counts : goal.returns-clause-counts
returns-clause-counts c = λ all held.
    let many = refs-many c.intervals-index-end.result.now (intervals_of c.args.self.now) c.intervals-index-end.ensures in
    let whole = take_all c.loop-index.index all (omega (arith, many, as-many (intervals_of c.args.self.now) all held, c.loop-index-test.false)) in
    let so-far = c.loop-index.invariant.counts all held in
    (so-far.0 ∙ ap (map samples_in) whole, so-far.1 ∙ ap width_of whole)

pub returns-clause-many : goal.returns-clause-many
returns-clause-many c = omega (arith, refs-many c.intervals-index-end.result.now (intervals_of c.args.self.now) c.intervals-index-end.ensures, c.loop-index-test.false, c.loop-index.invariant.many)
