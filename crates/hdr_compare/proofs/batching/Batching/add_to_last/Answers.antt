use Rattle.std.proofs.Common.{◌-◌, ◌^◌, ◌<◌, ◌++◌, subst, sym, arith, length}
use Rattle.hdr_base.specs.Classes.{IsFiner, resolution_of}
use Rattle.std.proofs.lemmas.List.{length-append}
use Rattle.hdr_model.specs.Merging.{lowest_values}
use Rattle.hdr_model.specs.Plain.{resolution}
use Rattle.hdr_compare.proofs.Coarser.{gains-lowest, lowest-many}
use Rattle.hdr_compare.proofs.Parts.{last-classes, last-gains, end-class}
use Rattle.hdr_compare.proofs.batching.Batching.add_to_last.Goals as goal

pub returns-in-Ok-clause-samples : goal.returns-in-Ok-clause-samples
returns-in-Ok-clause-samples c S T stands finer few has =
    let old = c.args.self.now in
    let front = old.full.items in
    let more = c.add.new.self in
    let g = resolution_of 1 old.sigfig in
    let last = end-class g front old.last has.classes in
    let own = subst (IsFiner (resolution c.args.histogram.now)) (sym last) finer in
    record {
      parts = last-gains front old.last more S T few (c.in-Ok.ensures.samples T stands own) has.parts;
      classes = last-classes g front old.last more c.add.ensures.same_classes has.classes;
    }

pub returns-in-Ok-clause-lowest : goal.returns-in-Ok-clause-lowest
returns-in-Ok-clause-lowest c S T stands few has =
    let old = c.args.self.now in
    let histogram = c.args.histogram.now in
    let front = old.full.items in
    let more = c.add.new.self in
    let many = lowest-many (2 ^ 64 - 1) histogram T c.distinct_values-more.ensures.plain stands in
    let fits : length (S ++ lowest_values histogram) < 2 ^ 64 = omega (arith, few, many, length-append S T, length-append S (lowest_values histogram)) in
    let gains = gains-lowest old.last histogram more T c.distinct_values-own.ensures.plain c.distinct_values-more.ensures.plain c.in-Ok.ensures.ok stands in (
      many,
      record {
        parts = last-gains front old.last more S (lowest_values histogram) fits gains has.parts;
        classes = last-classes (resolution_of 1 old.sigfig) front old.last more c.add.ensures.same_classes has.classes;
      },
    )
