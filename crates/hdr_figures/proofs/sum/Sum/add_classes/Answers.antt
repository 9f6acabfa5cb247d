use Rattle.std.proofs.Common.{◌∙◌, ◌-◌, ◌^◌, ap}
use Rattle.hdr_model.specs.Recording.{after_records}
use Rattle.hdr_figures.proofs.AddedClasses.{added-is}
use Rattle.hdr_figures.proofs.sum.Sum.add_classes.Goals as goal

pub returns-clause-sum : goal.returns-clause-sum
returns-clause-sum c = λ h a room marked.
    let old = c.args.self.now.histogram in
    let listed = a.listed in
    c.in_ok-record_all.ensures ∙ ap (after_records (2 ^ 64 - 1) old) listed.items ∙ added-is (2 ^ 64 - 1) (2 ^ 64 - 1) old h c.requires listed.plain listed.restated room marked
