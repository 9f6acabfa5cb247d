use Rattle.std.proofs.Common.{◌∙◌, ◌≤◌, ap, sym, subst}
use Rattle.hdr_base.specs.Classes.{Resolution, bin_of}
use Rattle.hdr_model.specs.Marks.{top_of_mark}
use Rattle.hdr_model.specs.Merging.{highest_top}
use Rattle.hdr_model.specs.Plain.{Plain, resolution, reach, max_of}
use Rattle.hdr_model.proofs.MergingCopies.{highest-max}
use Rattle.hdr_model.proofs.PlainBins.{bin-of-max, max-has-bin}
use Rattle.hdr_core.specs.MarkValues.{IsOfValues}
use Rattle.hdr_core.specs.Shown.{plain_of}
use Rattle.hdr_core.proofs.MarkValuesKept.{of-values, greatest-is-max}
use Rattle.hdr_core.proofs.histogram.Histogram.max.Goals as goal

pub greatest-requires : goal.greatest-requires
greatest-requires g c =
    let p = c.self.invariant.plain in
    subst (λ (s : Resolution). IsOfValues s c.self.inside.marks.top) (sym c.self.invariant.scale) (of-values g.T.Counter.greatest (plain_of c.self.inside) c.self.inside.marks.top p p.top_in_bins)

pub returns-clause-value : goal.returns-clause-value
returns-clause-value g c =
    c.greatest.ensures ∙ ap (λ (s : Resolution). top_of_mark s c.self.inside.marks.top) c.self.invariant.scale
    ∙ greatest-is-max (plain_of c.self.inside) ∙ ap (λ (h : Plain). max_of h) c.self.view_is

pub returns-clause-bin : goal.returns-clause-bin
returns-clause-bin g c =
    ap (bin_of (resolution c.args.self.now)) (returns-clause-value g c) ∙ bin-of-max g.T.Counter.greatest c.args.self.now (rw c.self.view_is at c.self.invariant.plain)

pub returns-clause-within : goal.returns-clause-within
returns-clause-within g c =
    subst (λ v. v ≤ reach c.args.self.now) (sym (returns-clause-value g c)) (max-has-bin g.T.Counter.greatest c.args.self.now (rw c.self.view_is at c.self.invariant.plain))

pub returns-clause-covers : goal.returns-clause-covers
returns-clause-covers g c =
    subst (λ v. highest_top c.args.self.now ≤ v) (sym (returns-clause-value g c)) (highest-max g.T.Counter.greatest c.args.self.now (rw c.self.view_is at c.self.invariant.plain))
