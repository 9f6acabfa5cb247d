use Rattle.std.proofs.Common.{◌≡◌, ◌∙◌, ◌-◌, ◌*◌, ◌^◌, ap, sym, arith}
use Rattle.hdr_base.specs.Classes.{Resolution}
use Rattle.hdr_counts.specs.Blocks.{Blocks}
use Rattle.hdr_core.specs.Shown.{plain_of}
use Rattle.hdr_model.specs.Plain.{Plain, resolution}
use Rattle.hdr_model.specs.Recording.{with_bins_to}
use Rattle.hdr_model.proofs.PlainKept.{IsPlain-grown, grown-parts, blocks-are, grows, resolution-digits}
use Rattle.hdr_core.proofs.histogram.Histogram.grow.Goals as goal

pub grow-requires-clause-more : goal.grow-requires-clause-more
grow-requires-clause-more g c =
    let h = plain_of c.self.inside in
    let past = rw (← c.self.view_is) at c.requires in
    let n = blocks-are c.self.inside.scale (resolution h) c.args.high c.blocks-2.result c.self.inside.counts.block c.self.invariant.scale c.blocks-2.ensures.value c.self.invariant.block (resolution-digits g.T.Counter.greatest h c.self.invariant.plain) in
    omega (arith, n, grows g.T.Counter.greatest h c.args.high c.self.invariant.plain past)

pub grow-requires-clause-at_most : goal.grow-requires-clause-at_most
grow-requires-clause-at_most g c =
    let block : c.self.inside.counts.block ≡ 2 ^ (c.self.inside.scale.digits - 1) = c.self.invariant.block ∙ ap (λ (s : Resolution). 2 ^ (s.digits - 1)) (sym c.self.invariant.scale) in
    rw block c.blocks-2.ensures.fits

pub invariant_of-self-2 : goal.invariant_of-self-2
invariant_of-self-2 g c =
    let h = plain_of c.self.inside in
    let past = rw (← c.self.view_is) at c.requires in
    let n = blocks-are c.self.inside.scale (resolution h) c.args.high c.blocks-2.result c.self.inside.counts.block c.self.invariant.scale c.blocks-2.ensures.value c.self.invariant.block (resolution-digits g.T.Counter.greatest h c.self.invariant.plain) in
    let new = grown-parts h c.args.high (c.blocks-2.result * c.self.inside.counts.block) c.grow.new.self.numbers n (ap (λ (b : Blocks). b.numbers) c.in_ok-grow.ensures) in
    record {
      scale = c.self.invariant.scale;
      block = ap (λ (b : Blocks). b.block) c.in_ok-grow.ensures ∙ c.self.invariant.block;
      plain = rw new (IsPlain-grown g.T.Counter.greatest h c.args.high c.self.invariant.plain (omega arith) past);
    }

pub returns : goal.returns
returns g c =
    let h = plain_of c.self.inside in
    let n = blocks-are c.self.inside.scale (resolution h) c.args.high c.blocks-2.result c.self.inside.counts.block c.self.invariant.scale c.blocks-2.ensures.value c.self.invariant.block (resolution-digits g.T.Counter.greatest h c.self.invariant.plain) in
    let new = grown-parts h c.args.high (c.blocks-2.result * c.self.inside.counts.block) c.grow.new.self.numbers n (ap (λ (b : Blocks). b.numbers) c.in_ok-grow.ensures) in
    new ∙ ap (λ (h : Plain). with_bins_to h c.args.high) c.self.view_is
