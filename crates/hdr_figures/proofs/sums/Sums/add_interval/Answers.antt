use Rattle.std.proofs.Common.{◌≡◌, ◌∙◌, ◌-◌, ◌^◌, List, ap, sym, subst}
use Rattle.hdr_model.specs.Merging.{after_add}
use Rattle.hdr_logs.specs.Stored.{view_of_stored}
use Rattle.hdrhistogram.specs.declared.serialization.class_decoder.RecordedClass.{RecordedClass}
use Rattle.hdr_figures.specs.Classes.{IsMarkedBySamples, ListsClasses}
use Rattle.hdr_figures.specs.declared.sum.Sum.{Sum}
use Rattle.hdr_figures.proofs.AddedClasses.{marks-kept}
use Rattle.hdr_figures.proofs.Adding.{held_classes}
use Rattle.hdr_figures.proofs.sums.Sums.add_interval.Goals as goal

pub returns : goal.returns
returns c =
    let field = (view_of_stored c.args.interval.now).field in
    let (h, held, listed) = held_classes field c.in_ok-bounds.bounds c.clear.new.self.items c.classes.new.classes.items c.clear.ensures.items c.in_ok-bounds.ensures.classes in
    let are = c.new-classes.ensures h (subst (λ (l : List RecordedClass). ListsClasses c.in_ok-bounds.bounds l h) (sym c.deref.ensures.value) listed) in
    let start = c.in_ok-add_start.ensures in
    let old = c.args.self.now.point.histogram in
    let sum : c.add_start.new.self.point.histogram ≡ after_add (2 ^ 64 - 1) old h = ap (λ (s : Sum). s.histogram) start.point ∙ c.in_ok-is_coarser.ensures h held are c.requires in
    record {
      sum = (h, held, sum, start.peaks ∙ c.with-self.ensures h are);
      marks = subst IsMarkedBySamples (sym sum) (marks-kept (2 ^ 64 - 1) (2 ^ 64 - 1) old h listed.plain c.requires);
    }
