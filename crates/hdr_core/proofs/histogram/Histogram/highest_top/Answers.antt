use Rattle.std.proofs.Common.{◌∙◌, ap, sym}
use Rattle.hdr_model.specs.Plain.{Plain, resolution}
use Rattle.hdr_model.specs.Merging.{highest_top}
use Rattle.hdr_model.proofs.PlainKept.{resolution-digits}
use Rattle.hdr_model.proofs.MergingCorrects.{last-at, last-none}
use Rattle.hdr_core.proofs.histogram.Histogram.highest_top.Goals as goal

pub returns-in-Some : goal.returns-in-Some
unfolding highest_top
returns-in-Some g c =
    let h = c.args.self.now in
    let i = c.in-Some.bin in
    let plain = rw c.self.view_is at c.self.invariant.plain in
    let place = rw (ap (λ (p : Plain). p.counts) c.self.view_is) at c.in-Some.ensures.index in
    c.class_top.ensures ∙ sym (last-at (resolution h) i h.counts (resolution-digits g.T.Counter.greatest h plain) place.0 place.1)

pub returns-in-None : goal.returns-in-None
unfolding highest_top
returns-in-None g c =
    let h = c.args.self.now in
    let none = rw (ap (λ (p : Plain). p.counts) c.self.view_is) at c.in-None.ensures.index in
    sym (last-none (resolution h) h.counts none)
