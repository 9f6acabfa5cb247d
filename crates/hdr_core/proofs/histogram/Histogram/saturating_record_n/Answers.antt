use Rattle.std.proofs.Common.{◌∙◌, ap, arith}
use Rattle.hdr_model.specs.Recording.{clamp_to_bins, after_record}
use Rattle.hdr_model.proofs.RecordingClears.{clamped-small}
use Rattle.hdr_model.proofs.RecordingStands.{StandsFor-recorded}
use Rattle.hdr_core.proofs.histogram.Histogram.saturating_record_n.Goals as goal

pub returns-clause-state : goal.returns-clause-state
returns-clause-state g c =
    let h = c.args.self.now in
    let greatest = g.T.Counter.greatest in
    c.record_inside.ensures ∙ ap (λ v. after_record greatest h v c.as_u64.result) c.clamped.ensures.value
    ∙ ap (λ n. after_record greatest h (clamp_to_bins h c.args.value) n) c.as_u64.ensures.value

pub returns-clause-samples : goal.returns-clause-samples
returns-clause-samples g c = λ S stands fits.
    let h = c.args.self.now in
    let plain = c.clamped.ensures.plain in
    rw (returns-clause-state g c)
    (StandsFor-recorded g.T.Counter.greatest h (clamp_to_bins h c.args.value) (g.T.Counter.number c.args.count) S (clamped-small g.T.Counter.greatest h c.args.value (omega arith) plain) plain stands fits)
