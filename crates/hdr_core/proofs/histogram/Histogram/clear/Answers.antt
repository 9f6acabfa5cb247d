use Rattle.std.proofs.Common.{◌∙◌, ap}
use Rattle.hdr_counts.specs.Blocks.{Blocks}
use Rattle.hdr_core.specs.Shown.{plain_of}
use Rattle.hdr_model.specs.Plain.{Plain}
use Rattle.hdr_model.specs.Recording.{after_clear}
use Rattle.hdr_model.proofs.RecordingClears.{cleared-parts, cleared-none, IsPlain-cleared}
use Rattle.hdr_core.proofs.histogram.Histogram.clear.Goals as goal

pub returns-then-self-eq0 : goal.returns-then-self-eq0
returns-then-self-eq0 g c =
    let h = plain_of c.self.inside in
    rw (← c.self.view_is) (cleared-none g.T.Counter.greatest h c.self.invariant.plain c.if-self-eq0.true)

pub invariant_of-self : goal.invariant_of-self
invariant_of-self g c =
    let h = plain_of c.self.inside in
    record {
      scale = c.self.invariant.scale;
      block = ap (λ (b : Blocks). b.block) c.clear.ensures ∙ c.self.invariant.block;
      plain = rw (cleared-parts h c.clear.new.self.numbers (ap (λ (b : Blocks). b.numbers) c.clear.ensures)) (IsPlain-cleared g.T.Counter.greatest h c.self.invariant.plain);
    }

pub returns : goal.returns
returns g c =
    cleared-parts (plain_of c.self.inside) c.clear.new.self.numbers (ap (λ (b : Blocks). b.numbers) c.clear.ensures) ∙ ap (λ (p : Plain). after_clear p) c.self.view_is
