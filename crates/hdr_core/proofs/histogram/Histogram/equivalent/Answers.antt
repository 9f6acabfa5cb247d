use Rattle.std.proofs.Common.{◌≡◌, ◌∙◌, eqb-true, eq-eqb, ap, sym}
use Rattle.hdr_base.specs.Classes.{Resolution, bin_of}
use Rattle.hdr_base.proofs.ClassesIntervals.{equivalent-bin, bin-equivalent}
use Rattle.hdr_model.specs.Plain.{Plain, resolution}
use Rattle.hdr_model.proofs.PlainKept.{resolution-digits}
use Rattle.hdr_core.proofs.histogram.Histogram.equivalent.Goals as goal

pub returns : goal.returns
returns g c =
    let h = c.args.self.now in
    let same = c.self.invariant.scale ∙ ap (λ (p : Plain). resolution p) c.self.view_is in
    let digits = resolution-digits g.T.Counter.greatest h (rw c.self.view_is at c.self.invariant.plain) in
    let a : c.bin.result ≡ bin_of (resolution h) c.args.a = c.bin.ensures.value ∙ ap (λ (s : Resolution). bin_of s c.args.a) same in
    let b : c.bin-2.result ≡ bin_of (resolution h) c.args.b = c.bin-2.ensures.value ∙ ap (λ (s : Resolution). bin_of s c.args.b) same in (
      λ e. bin-equivalent (resolution h) c.args.a c.args.b digits (sym a ∙ eqb-true c.bin.result c.bin-2.result e ∙ b),
      λ e. eq-eqb c.bin.result c.bin-2.result (a ∙ equivalent-bin (resolution h) c.args.a c.args.b digits e ∙ sym b),
    )
