use Rattle.std.proofs.Common.{◌∙◌, ◌≤◌, ap, sym, subst}
use Rattle.hdr_base.specs.Classes.{Resolution, bin_of}
use Rattle.hdr_model.specs.Plain.{Plain, resolution, reach}
use Rattle.hdr_model.specs.Recording.{after_record, after_add_to_bin, with_bins_for}
use Rattle.hdr_model.proofs.MergingKeeps.{recorded-inside}
use Rattle.hdr_model.proofs.MergingCorrects.{resolution-widened, widened-holds}
use Rattle.hdr_core.proofs.histogram.Histogram.record_past.Given as given
use Rattle.hdr_core.proofs.histogram.Histogram.record_past.Goals as goal
use Rattle.hdr_core.proofs.histogram.Histogram.record_past.Goals.{In_ok-resize_for}

holds : (g : given.Over) (c : In_ok-resize_for g) → c.args.value ≤ reach c.resize_for.new.self
holds g c = subst (λ (p : Plain). c.args.value ≤ reach p) (sym c.in_ok-resize_for.ensures.ok) (widened-holds c.args.self.now c.args.value)

pub record_inside-requires : goal.record_inside-requires
record_inside-requires g c = holds g (goal.at.record_inside-requires g c).In_ok-resize_for

pub returns-clause-ok : goal.returns-clause-ok
unfolding after_record
returns-clause-ok g c =
    let w = c.resize_for.new.self in
    let h = c.args.self.now in
    let v = c.args.value in
    let n = g.T.Counter.number c.args.count in
    let greatest = g.T.Counter.greatest in
    c.record_inside.ensures ∙ ap (λ k. after_record greatest w v k) c.as_u64.ensures.value
    ∙ sym (recorded-inside greatest w v n (holds g (goal.at.returns-clause-ok g c).In_ok-resize_for))
    ∙ ap (λ (p : Plain). after_add_to_bin greatest p (bin_of (resolution p) v) n) c.in_ok-resize_for.ensures.ok
    ∙ ap (λ (k : Resolution). after_add_to_bin greatest (with_bins_for h v) (bin_of k v) n) (resolution-widened h v)
