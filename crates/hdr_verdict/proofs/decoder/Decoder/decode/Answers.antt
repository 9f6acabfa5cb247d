use Rattle.std.proofs.Common.{List, ◌-◌, ◌^◌, get_or, sym, subst, ◌∙◌}
use Rattle.std.proofs.lemmas.Result.{IfOk-weaker}
use Rattle.hdr_base.specs.Classes.{HasScale}
use Rattle.hdrhistogram.specs.ClassesRead.{AppendsField}
use Rattle.hdr_logs.specs.Stored.{view_of_stored}
use Rattle.hdr_verdict.specs.Decoders.{intervals_of}
use Rattle.hdr_verdict.specs.Samples.{Held, AreHeld, nothing_held}
use Rattle.hdr_verdict.specs.ClassSamples.{AppendsHeld}
use Rattle.hdr_verdict.proofs.Holding.{held-by}
use Rattle.hdr_verdict.proofs.decoder.Decoder.decode.Goals as goal

pub returns-clause-scale : goal.returns-clause-scale
returns-clause-scale c =
    let r = c.index-interval.result.now in
    IfOk-weaker c.classes.result (λ bounds. AppendsField (2 ^ 64 - 1) (view_of_stored r.now).field bounds c.args.classes.now.items c.classes.new.classes.items) (λ bounds. HasScale bounds.low bounds.sigfig)
    (λ bounds is. (let (bytes, e, a) = is in subst (λ s. HasScale bounds.low s) a.sigfig (subst (λ l. HasScale l a.histogram.sigfig) a.low a.plain.scale))) c.classes.ensures.classes

pub returns-clause-held : goal.returns-clause-held
returns-clause-held c =
    let r = c.index-interval.result.now in
    let old = c.args.classes.now.items in
    let new = c.classes.new.classes.items in
    IfOk-weaker c.classes.result (λ bounds. AppendsField (2 ^ 64 - 1) (view_of_stored r.now).field bounds old new)
    (λ bounds. (all : List Held) → AreHeld (intervals_of c.args.self.now) all → AppendsHeld (get_or all c.args.index nothing_held) bounds old new)
    (λ bounds is all held. (
    let (bytes, e, a) = is in
    let one = held-by c.args.self.now.intervals.items all c.args.index r c.index-interval.ensures held c.requires a.histogram (bytes, e, a.taken, a.read) in
    record { histogram = a.histogram; is = one; plain = a.plain; low = sym a.low ∙ one.low; sigfig = sym a.sigfig ∙ one.sigfig; appended = a.appended })) c.classes.ensures.classes
