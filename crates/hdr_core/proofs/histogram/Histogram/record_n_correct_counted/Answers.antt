use Rattle.std.proofs.Common.{◌≡◌, ◌∙◌, ◌+◌, ◌-◌, ◌++◌, ◌∷◌, [], length, replicate, ap, sym, subst, arith, append_assoc, append-nil}
use Rattle.hdr_base.specs.Classes.{Resolution}
use Rattle.hdr_model.specs.Plain.{Plain, resolution}
use Rattle.hdr_model.specs.Recording.{after_record, after_records, samples_of}
use Rattle.hdr_model.specs.Samples.{StandsFor, Fits}
use Rattle.hdr_model.specs.Correction.{missing, down_to, each_times, after_correct, classes_held}
use Rattle.hdr_model.proofs.PlainKept.{resolution-recorded}
use Rattle.hdr_model.proofs.CorrectionFacts.{missing-down}
use Rattle.hdr_model.proofs.CorrectionClasses.{held-none, held-le}
use Rattle.hdr_model.proofs.MergingStands.{Fits-front}
use Rattle.hdr_model.proofs.CorrectionByClass.{recorded-holds, high-corrected}
use Rattle.hdr_core.proofs.histogram.Histogram.record_n_correct_counted.Given as given
use Rattle.hdr_core.proofs.histogram.Histogram.record_n_correct_counted.Goals as goal
use Rattle.hdr_core.proofs.histogram.Histogram.record_n_correct_counted.Goals.{After-add_missing, Else-has_missing}

pub add_missing-requires-clause-within : goal.add_missing-requires-clause-within
add_missing-requires-clause-within g c =
    rw (c.in_ok-record_n.ensures.ok) (omega (arith, recorded-holds g.T.Counter.greatest c.args.self.now c.args.value (g.T.Counter.number c.args.count)))

-- the values that are recorded after the first
list : (g : given.Over) (c : After-add_missing g) → down_to (c.args.value - c.args.interval) c.args.interval ≡ missing c.args.value c.args.interval
list g c = sym (missing-down c.args.value c.args.interval (c.has_missing.ensures.step c.if-has_missing.true).0)

none : (g : given.Over) (c : Else-has_missing g) → missing c.args.value c.args.interval ≡ []
none g c = c.has_missing.ensures.none c.if-has_missing.false

pub returns-then-has_missing-clause-ok : goal.returns-then-has_missing-clause-ok
unfolding after_correct
returns-then-has_missing-clause-ok g c =
    let greatest = g.T.Counter.greatest in
    let n = g.T.Counter.number c.args.count in
    let v = c.args.value in
    let i = c.args.interval in
    c.add_missing.ensures.state
    ∙ ap (λ (h : Plain). after_records greatest h (each_times c.as_u64.result (down_to (c.args.value - c.args.interval) i))) c.in_ok-record_n.ensures.ok
    ∙ ap (λ k. after_records greatest (after_record greatest c.args.self.now v n) (each_times k (down_to (c.args.value - c.args.interval) i))) c.as_u64.ensures.value
    ∙ ap (λ xs. after_records greatest (after_record greatest c.args.self.now v n) (each_times n xs)) (list g c)

pub returns-then-has_missing-clause-ticks : goal.returns-then-has_missing-clause-ticks
returns-then-has_missing-clause-ticks g c =
    let v = c.args.value in
    let i = c.args.interval in
    let mid = c.record_n.new.self in
    let new = c.add_missing.new.self in
    c.add_missing.ensures.ticks
    ∙ ap (λ xs. c.args.ticks.now + classes_held (resolution mid) (length mid.counts) xs) (list g c)
    ∙ ap (λ (k : Resolution). c.args.ticks.now + classes_held k (length mid.counts) (missing v i)) (sym c.add_missing.ensures.same_classes)
    ∙ ap (λ m. c.args.ticks.now + classes_held (resolution new) m (missing v i)) (sym c.add_missing.ensures.same_bins)

pub returns-then-has_missing-clause-at_most_bins : goal.returns-then-has_missing-clause-at_most_bins
returns-then-has_missing-clause-at_most_bins g c =
    let new = c.add_missing.new.self in
    omega (arith, returns-then-has_missing-clause-ticks g c, held-le (resolution new) (length new.counts) (missing c.args.value c.args.interval))

pub returns-then-has_missing-clause-samples : goal.returns-then-has_missing-clause-samples
returns-then-has_missing-clause-samples g c = λ S stands fits.
    let greatest = g.T.Counter.greatest in
    let n = g.T.Counter.number c.args.count in
    let v = c.args.value in
    let i = c.args.interval in
    let joined : S ++ samples_of (each_times n (v ∷ missing v i)) ≡ (S ++ replicate n v) ++ samples_of (each_times c.as_u64.result (down_to (c.args.value - c.args.interval) i)) =
    sym (append_assoc S (replicate n v) (samples_of (each_times n (missing v i)))) ∙ ap (λ xs. (S ++ replicate n v) ++ samples_of (each_times n xs)) (sym (list g c))
    ∙ ap (λ k. (S ++ replicate n v) ++ samples_of (each_times k (down_to (c.args.value - c.args.interval) i))) (sym c.as_u64.ensures.value) in
    let all = subst (λ xs. Fits greatest (resolution c.args.self.now) xs) joined fits in
    let first = c.in_ok-record_n.ensures.samples S stands (Fits-front greatest (resolution c.args.self.now) (S ++ replicate n v) _ all) in
    let same : resolution c.record_n.new.self ≡ resolution c.args.self.now = ap (λ (h : Plain). resolution h) c.in_ok-record_n.ensures.ok ∙ resolution-recorded greatest c.args.self.now v n in
    subst (λ xs. StandsFor c.add_missing.new.self xs) (sym joined)
    (c.add_missing.ensures.samples (S ++ replicate n v) first (subst (λ (k : Resolution). Fits greatest k ((S ++ replicate n v) ++ samples_of (each_times c.as_u64.result (down_to (c.args.value - c.args.interval) i)))) (sym same) all))

pub returns-then-has_missing-clause-high : goal.returns-then-has_missing-clause-high
returns-then-has_missing-clause-high g c =
    ap (λ (p : Plain). p.high) (returns-then-has_missing-clause-ok g c) ∙ high-corrected g.T.Counter.greatest c.args.self.now c.args.value (g.T.Counter.number c.args.count) c.args.interval

pub returns-else-has_missing-clause-ok : goal.returns-else-has_missing-clause-ok
unfolding after_correct
returns-else-has_missing-clause-ok g c =
    let n = g.T.Counter.number c.args.count in
    c.in_ok-record_n.ensures.ok
    ∙ ap (λ xs. after_records g.T.Counter.greatest (after_record g.T.Counter.greatest c.args.self.now c.args.value n) (each_times n xs)) (sym (none g c))

pub returns-else-has_missing-clause-ticks : goal.returns-else-has_missing-clause-ticks
returns-else-has_missing-clause-ticks g c =
    let h = c.record_n.new.self in
    let no_class : classes_held (resolution h) (length h.counts) (missing c.args.value c.args.interval) ≡ 0 =
    ap (λ xs. classes_held (resolution h) (length h.counts) xs) (none g c) ∙ held-none (resolution h) (length h.counts) in
    omega arith

pub returns-else-has_missing-clause-samples : goal.returns-else-has_missing-clause-samples
returns-else-has_missing-clause-samples g c = λ S stands fits.
    let n = g.T.Counter.number c.args.count in
    let v = c.args.value in
    let list : S ++ samples_of (each_times n (v ∷ missing v c.args.interval)) ≡ S ++ replicate n v =
    ap (λ xs. S ++ (replicate n v ++ samples_of (each_times n xs))) (none g c) ∙ ap (λ xs. S ++ xs) (append-nil (replicate n v)) in
    subst (λ xs. StandsFor c.record_n.new.self xs) (sym list)
    (c.in_ok-record_n.ensures.samples S stands (subst (λ xs. Fits g.T.Counter.greatest (resolution c.args.self.now) xs) list fits))

pub returns-then-has_missing-clause-at_most : goal.returns-then-has_missing-clause-at_most
returns-then-has_missing-clause-at_most g c = omega (arith, returns-then-has_missing-clause-at_most_bins g c, c.add_missing.ensures.at_most)
