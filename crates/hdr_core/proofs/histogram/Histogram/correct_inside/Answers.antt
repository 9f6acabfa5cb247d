use Rattle.std.proofs.Common.{◌≡◌, ◌∙◌, ◌-◌, [], ap, sym, arith}
use Rattle.hdr_model.specs.Plain.{Plain}
use Rattle.hdr_model.specs.Recording.{after_record, after_records}
use Rattle.hdr_model.specs.Correction.{missing, down_to, each_times}
use Rattle.hdr_model.proofs.CorrectionFacts.{missing-down}
use Rattle.hdr_model.proofs.CorrectionByClass.{recorded-holds}
use Rattle.hdr_core.proofs.histogram.Histogram.correct_inside.Goals as goal

pub add_missing-requires-clause-within : goal.add_missing-requires-clause-within
add_missing-requires-clause-within g c =
    rw (c.record_inside.ensures) (omega (arith, recorded-holds g.T.Counter.greatest c.args.self.now c.args.value c.args.count))

pub returns-then-has_missing : goal.returns-then-has_missing
returns-then-has_missing g c =
    let greatest = g.T.Counter.greatest in
    let n = c.args.count in
    let v = c.args.value in
    let i = c.args.interval in
    let list : down_to (v - i) i ≡ missing v i = sym (missing-down v i (c.has_missing.ensures.step c.if-has_missing.true).0) in
    c.add_missing.ensures.state
    ∙ ap (λ (h : Plain). after_records greatest h (each_times n (down_to (v - i) i))) c.record_inside.ensures
    ∙ ap (λ xs. after_records greatest (after_record greatest c.args.self.now v n) (each_times n xs)) list

pub returns-else-has_missing : goal.returns-else-has_missing
returns-else-has_missing g c =
    let none : missing c.args.value c.args.interval ≡ [] = c.has_missing.ensures.none c.if-has_missing.false in
    c.record_inside.ensures
    ∙ ap (λ xs. after_records g.T.Counter.greatest (after_record g.T.Counter.greatest c.args.self.now c.args.value c.args.count) (each_times c.args.count xs)) (sym none)
