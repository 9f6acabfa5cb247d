use Rattle.std.proofs.Common.{◌≡◌, ◌∙◌, ◌+◌, ◌-◌, ◌^◌, min, ap, arith, set, get_or}
use Rattle.hdr_counts.specs.Blocks.{Blocks}
use Rattle.hdr_model.specs.Marks.{MarkPair}
use Rattle.hdr_core.specs.Shown.{plain_of}
use Rattle.hdr_model.specs.Plain.{Plain}
use Rattle.hdr_model.specs.Recording.{after_add_to_bin}
use Rattle.hdr_model.proofs.PlainKept.{added-parts, IsPlain-added}
use Rattle.hdr_model.proofs.CorrectionByClass.{bins-few}
use Rattle.hdr_core.proofs.histogram.Histogram.add_capped.Given as given
use Rattle.hdr_core.proofs.histogram.Histogram.add_capped.Goals as goal
use Rattle.hdr_core.proofs.histogram.Histogram.add_capped.Goals.{After-widen}

pub widen-requires : goal.widen-requires
widen-requires g c =
    let in_bins = rw (← c.self.view_is) at c.requires.bin in
    omega (arith, bins-few g.T.Counter.greatest (plain_of c.self.inside) c.self.invariant.plain)

-- the fields are those of a number added
parts : (g : given.Over) (c : After-widen g) → plain_of (record c.self.inside { counts = c.set.new.self; total = c.saturating_from-self-inside.result; marks = c.widen.new.self }) ≡ after_add_to_bin g.T.Counter.greatest (plain_of c.self.inside) c.args.bin c.args.number
parts g c =
    let h = plain_of c.self.inside in
    let n = c.args.number in
    let greatest = g.T.Counter.greatest in
    let put : c.set.new.self.numbers ≡ set h.counts c.args.bin (min (get_or h.counts c.args.bin 0 + n) greatest) =
    ap (λ (b : Blocks). b.numbers) c.set.ensures
    ∙ ap (λ k. set h.counts c.args.bin k) (c.saturating_from.ensures ∙ ap (λ k. min (k + n) greatest) (c.from.ensures ∙ c.as_u64.ensures.value ∙ c.get.ensures)) in
    added-parts greatest h c.args.bin n c.set.new.self.numbers c.saturating_from-self-inside.result c.widen.new.self.top c.widen.new.self.lower put
    (c.saturating_from-self-inside.ensures ∙ ap (λ k. min (k + n) (2 ^ 64 - 1)) c.from-2.ensures)
    (ap (λ (m : MarkPair). m.top) c.widen.ensures) (ap (λ (m : MarkPair). m.lower) c.widen.ensures)

pub invariant_of-self : goal.invariant_of-self
invariant_of-self g c = record {
  scale = c.self.invariant.scale;
  block = ap (λ (b : Blocks). b.block) c.set.ensures ∙ c.self.invariant.block;
  plain = rw (parts g c) (IsPlain-added g.T.Counter.greatest (plain_of c.self.inside) c.args.bin c.args.number g.met.T.Counter.one_fits (rw (← c.self.view_is) at c.requires.bin) c.self.invariant.plain);
}

pub returns : goal.returns
returns g c = parts g c ∙ ap (λ (h : Plain). after_add_to_bin g.T.Counter.greatest h c.args.bin c.args.number) c.self.view_is
