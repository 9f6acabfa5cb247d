use Rattle.std.proofs.Common.{◌∙◌, ◌≤◌, ap, sym, subst, length, rules, ◌<◌}
use Rattle.hdr_base.specs.Classes.{bin_of}
use Rattle.hdr_base.proofs.ClassesDigits.{digits-pos-of}
use Rattle.hdr_base.proofs.ClassesFiner.{bin-value_of}
use Rattle.hdr_model.specs.Plain.{resolution, reach}
use Rattle.hdr_model.proofs.PlainBins.{value-has-bin}
use Rattle.hdr_core.proofs.histogram.Histogram.bin_value.Goals as goal

pub returns-then-index-len-clause-bin : goal.returns-then-index-len-clause-bin
returns-then-index-len-clause-bin g c =
    let h = c.args.self.now in
    ap (bin_of (resolution h)) c.class_value.ensures ∙ bin-value_of (resolution h) c.args.index (digits-pos-of h.low h.sigfig)

pub returns-then-index-len-clause-within : goal.returns-then-index-len-clause-within
returns-then-index-len-clause-within g c =
    let h = c.args.self.now in
    let inside : c.args.index < length h.counts = search rules in
    subst (λ v. v ≤ reach h) (sym c.class_value.ensures) (value-has-bin g.T.Counter.greatest h c.args.index (rw c.self.view_is at c.self.invariant.plain) inside)
