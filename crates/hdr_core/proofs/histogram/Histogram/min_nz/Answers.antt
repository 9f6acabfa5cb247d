use Rattle.std.proofs.Common.{◌∙◌, ap, sym, subst}
use Rattle.hdr_base.specs.Classes.{Resolution}
use Rattle.hdr_model.specs.Marks.{value_of_mark}
use Rattle.hdr_model.specs.Plain.{Plain, min_nz_of}
use Rattle.hdr_core.specs.MarkValues.{IsOfValues}
use Rattle.hdr_core.specs.Shown.{plain_of}
use Rattle.hdr_core.proofs.MarkValuesKept.{later-of-values, lowest-is-min_nz}
use Rattle.hdr_core.proofs.histogram.Histogram.min_nz.Goals as goal

pub lowest-requires : goal.lowest-requires
lowest-requires g c =
    let p = c.self.invariant.plain in
    subst (λ (s : Resolution). IsOfValues s c.self.inside.marks.lower) (sym c.self.invariant.scale) (later-of-values g.T.Counter.greatest (plain_of c.self.inside) c.self.inside.marks.lower p p.lower_in_bins)

pub returns : goal.returns
returns g c =
    c.lowest.ensures ∙ ap (λ (s : Resolution). value_of_mark s c.self.inside.marks.lower) c.self.invariant.scale
    ∙ lowest-is-min_nz (plain_of c.self.inside) ∙ ap (λ (h : Plain). min_nz_of h) c.self.view_is
