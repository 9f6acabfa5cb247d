use Rattle.std.proofs.Common.{◌≡◌, ℕ, ◌-◌, ◌^◌, ◌≤◌, ◌++◌, ap, sym, subst, ◌∙◌, arith}
use Rattle.std.proofs.lemmas.List.{length-append}
use Rattle.hdr_model.specs.Correction.{after_correct}
use Rattle.hdr_model.specs.Plain.{Plain, resolution}
use Rattle.hdr_model.specs.Samples.{StandsFor}
use Rattle.hdr_compare.specs.Batchings.{recorded}
use Rattle.hdr_compare.proofs.Parts.{fits-of}
use Rattle.hdr_runs.specs.Batched.{RecordsNumber}
use Rattle.hdr_runs.proofs.RecordedTotals.{correct-grows, correct-total}
use Rattle.hdr_runs.proofs.batch_tally.BatchTally.take.Goals as goal

pub returns-in-Ok-clause-same : goal.returns-in-Ok-clause-same
returns-in-Ok-clause-same c =
    let old = c.args.self.now in
    let h = old.tally.histogram in
    let interval = c.record.new.self.interval in
    let same : interval ≡ old.tally.interval = c.in_default.ensures.unit.1 in
    let L = recorded c.args.units interval in
    let plain = c.distinct_values-bins.ensures.plain in
    let gains = c.recording_stands.ensures.corrected (2 ^ 64 - 1) h plain c.args.units 1 interval c.ranges.units.fits (omega arith) in
    let after : after_correct (2 ^ 64 - 1) h c.args.units 1 interval ≡ c.record.new.self.histogram =
    ap (λ (i : ℕ). after_correct (2 ^ 64 - 1) h c.args.units 1 i) same
    ∙ ap (λ (v : ℕ). after_correct (2 ^ 64 - 1) h v 1 old.tally.interval) c.requires
    ∙ sym c.in_default.ensures.number.0 in
    let total : (after_correct (2 ^ 64 - 1) h c.args.units 1 interval).total ≡ c.record.new.self.histogram.total = ap (λ (k : Plain). k.total) after in
    let fits : h.total ≤ 2 ^ 64 - 1 = omega (arith, plain.total_fits) in
    let grows = correct-grows (2 ^ 64 - 1) h c.args.units interval fits in
    let all = correct-total (2 ^ 64 - 1) h c.args.units interval in
    record {
      has = λ has. has;
      grows = λ _. omega (arith, grows, total);
      samples = λ has S stands. (
        L,
        (λ less. omega (arith, all (omega (arith, less, total)), total, stands.all.total, length-append S L)),
        λ few. record {
          all = subst (λ (k : Plain). StandsFor k (S ++ L)) after (gains S stands.all (fits-of (resolution h) (S ++ L) few));
          batches = c.in-Ok.ensures.samples S few stands.batches;
        },
      );
    }

pub returns-in-Ok-clause-number : goal.returns-in-Ok-clause-number
unfolding RecordsNumber
returns-in-Ok-clause-number c = c.in_default.ensures.number
