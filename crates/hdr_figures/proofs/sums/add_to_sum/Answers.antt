use Rattle.std.proofs.Common.{◌∙◌, ◌-◌, ◌^◌, ap}
use Rattle.hdr_model.specs.Merging.{after_add}
use Rattle.hdr_logs.specs.Stored.{view_of_stored}
use Rattle.hdr_figures.proofs.Adding.{held_one}
use Rattle.hdr_figures.proofs.sums.add_to_sum.Goals as goal

pub returns : goal.returns
returns c = λ h held are marked.
    let same = held_one (view_of_stored c.args.interval.now).field c.in_ok-histogram.histogram h c.in_ok-histogram.ensures.histogram held in
    c.in_ok-add.ensures.sum ∙ ap (λ s. after_add (2 ^ 64 - 1) c.args.sum.now.histogram s) (c.of.ensures.histogram ∙ same)
