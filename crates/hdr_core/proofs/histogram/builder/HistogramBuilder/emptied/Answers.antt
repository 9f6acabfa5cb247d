use Rattle.std.proofs.Common.{◌≡◌, ◌∙◌, false, replicate, ap, subst, arith}
use Rattle.hdr_base.specs.Classes.{resolution_of, bins_to}
use Rattle.hdr_counts.specs.Blocks.{Blocks}
use Rattle.hdr_model.specs.Unfinished.{unfinished_of}
use Rattle.hdr_model.specs.Plain.{Plain, empty_plain}
use Rattle.hdr_model.specs.CallErrors.{IsBounds}
use Rattle.hdr_core.proofs.histogram.builder.HistogramBuilder.emptied.Goals as goal

pub returns : goal.returns
unfolding empty_plain
returns g c =
    let h = c.histogram.inside in
    let p = c.histogram.invariant.plain in
    let numbers : c.cleared.result.numbers ≡ replicate (bins_to (resolution_of h.bounds.low h.bounds.sigfig) h.bounds.high) 0 = ap (λ (b : Blocks). b.numbers) c.cleared.ensures ∙ ap (λ n. replicate n 0) p.bins in
    rw c.fixed.ensures (
      ap (λ ns. record { low = h.bounds.low; high = h.bounds.high; sigfig = h.bounds.sigfig; auto_resize = false; counts = ns }) numbers ∙ ap (λ (q : Plain). unfinished_of (empty_plain q.low q.high q.sigfig false)) c.histogram.view_is,
      subst (λ (q : Plain). IsBounds q.low q.high q.sigfig) c.histogram.view_is (record { low_fits = omega (arith, p.wide, p.high_fits); wide = p.wide; scale = p.scale }),
    )
