use Rattle.std.proofs.Common.{◌∙◌, ap, arith}
use Rattle.hdr_base.specs.Classes.{Resolution, bin_of, value_of}
use Rattle.hdr_model.specs.Plain.{Plain, resolution}
use Rattle.hdr_model.proofs.PlainKept.{room-in}
use Rattle.hdr_core.proofs.histogram.Histogram.bin_of_class.Goals as goal

pub returns-clause-value : goal.returns-clause-value
returns-clause-value g c =
    let h = c.args.self.now in
    c.bin.ensures.value ∙ ap (λ (s : Resolution). bin_of s c.class_value.result) (c.self.invariant.scale ∙ ap (λ (p : Plain). resolution p) c.self.view_is)
    ∙ ap (λ v. bin_of (resolution h) v) c.class_value.ensures

pub returns-clause-bound : goal.returns-clause-bound
returns-clause-bound g c =
    let h = c.args.self.now in
    omega (arith, returns-clause-value g c, room-in g.T.Counter.greatest h (value_of (resolution c.args.other.now) c.args.bin) (rw c.self.view_is at c.self.invariant.plain) c.requires.reached)
