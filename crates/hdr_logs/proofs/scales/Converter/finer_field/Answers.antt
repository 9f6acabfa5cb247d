use Rattle.std.proofs.Common.{◌≡◌, ◌∙◌, ◌++◌, ◌^◌, Result, Ok, Err, IfOk, map, true, sym, ap, subst}
use Rattle.hdr_base.specs.Classes.{resolution_of}
use Rattle.hdr_model.specs.Plain.{Plain, empty_plain, resolution}
use Rattle.hdr_model.specs.Merging.{classes_from}
use Rattle.hdrhistogram.specs.ClassesRead.{times_of}
use Rattle.hdrhistogram.specs.V2.{IsV2}
use Rattle.hdr_logs.specs.Scales.{multiplied}
use Rattle.hdr_logs.proofs.Multiplied.{multiplied-is}
use Rattle.hdr_logs.proofs.scales.Converter.finer_field.Goals as goal

-- what follows from what holds of a successful result
if_ok : {A E : Type 0} {P Q : A → Type 0} (r : Result A E) → ((a : A) → P a → Q a) → IfOk r P → IfOk r Q
if_ok (Ok a) then p = then a p
if_ok (Err e) then p = tt

pub returns-clause-text : goal.returns-clause-text
returns-clause-text c =
    let bounds = c.in_ok-bounds.bounds in
    let read = c.in_ok-bounds.ensures.classes in
    let held = read.2 in
    let h = held.histogram in
    let classes = c.deref.result.now in
    let listed : map times_of classes ≡ classes_from (resolution h) 0 h.counts =
    ap (map times_of) c.deref.ensures.value ∙ held.appended ∙ ap (λ l. map times_of l ++ classes_from (resolution h) 0 h.counts) c.clear.ensures.items in
    let same : c.in-Some-new.scale ≡ resolution h =
    c.in-Some-new.ensures.scale.1 ∙ ap (λ low. resolution_of low bounds.sigfig) (sym held.low) ∙ ap (λ sigfig. resolution_of h.low sigfig) (sym held.sigfig) in
    let new : c.in_ok-histogram.histogram ≡ empty_plain 1 2 h.sigfig true =
    c.in_ok-histogram.ensures.made.0 ∙ ap (λ sigfig. empty_plain 1 2 sigfig true) (sym held.sigfig) in
    let is : c.record_tops.new.sum ≡ multiplied (10 ^ c.args.more) h =
    multiplied-is c.in-Some.factor h c.in_ok-histogram.histogram c.record_tops.new.sum c.in-Some-new.scale classes listed same new c.in_ok-record_tops.ensures.sum
    ∙ ap (λ factor. multiplied factor h) c.in-Some.ensures.1 in
    if_ok c.encoded.result (λ text e. (h, e.0, (read.0, read.1, held.taken, held.read), e.2, subst (λ (p : Plain). IsV2 p e.0) is e.1)) c.encoded.ensures.text
