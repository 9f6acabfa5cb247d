use Rattle.std.proofs.Common.{◌≤◌, arith}
use Rattle.std.proofs.lemmas.List.Elements.{All-weaker}
use Rattle.hdr_model.specs.Plain.{IsPlain, reach}
use Rattle.hdr_model.specs.Recording.{after_records, samples_of}
use Rattle.hdr_model.specs.Samples.{GainsSamples}
use Rattle.hdr_model.specs.Correction.{each_times, down_to}
use Rattle.hdr_model.proofs.CorrectionFacts.{down_to-within}
use Rattle.hdr_model.proofs.MergingStands.{StandsFor-each}
use Rattle.hdr_model.proofs.PlainBins.{few-bins}
use Rattle.hdr_model.proofs.CorrectionByClass.{each-within}
use Rattle.hdr_core.proofs.histogram.Histogram.add_missing.Given as given
use Rattle.hdr_core.proofs.histogram.Histogram.add_missing.Goals as goal
use Rattle.hdr_core.proofs.histogram.Histogram.add_missing.Goals.{After-width}

plain : (g : given.Over) (c : After-width g) → IsPlain g.T.Counter.greatest c.args.self.now
plain g c = rw c.self.view_is at c.self.invariant.plain

gained : (g : given.Over) (c : After-width g) → GainsSamples g.T.Counter.greatest c.args.self.now
    (after_records g.T.Counter.greatest c.args.self.now (each_times c.args.count (down_to c.args.first c.args.interval)))
    (samples_of (each_times c.args.count (down_to c.args.first c.args.interval)))
gained g c = λ S stands fits.
    let h = c.args.self.now in
    let values = down_to c.args.first c.args.interval in
    let within = All-weaker (λ y. (c.args.interval ≤ y) × (y ≤ c.args.first)) (λ y. y ≤ reach h) (λ y e. omega (arith, e, c.requires.within)) values (down_to-within c.args.first c.args.interval (omega arith)) in
    StandsFor-each g.T.Counter.greatest h (each_times c.args.count values) S g.met.T.Counter.one_fits (plain g c) (each-within (reach h) c.args.count values within) stands fits

pub returns-then-width-interval-clause-samples : goal.returns-then-width-interval-clause-samples
returns-then-width-interval-clause-samples g c = rw c.add_each.ensures.state (gained g (goal.at.returns-then-width-interval-clause-samples g c).After-width)

pub returns-else-width-interval-clause-samples : goal.returns-else-width-interval-clause-samples
returns-else-width-interval-clause-samples g c = rw c.add_by_class.ensures.state (gained g (goal.at.returns-else-width-interval-clause-samples g c).After-width)

pub returns-then-width-interval-clause-at_most : goal.returns-then-width-interval-clause-at_most
returns-then-width-interval-clause-at_most g c = omega (arith, c.add_each.ensures.same_bins, few-bins g.T.Counter.greatest c.args.self.now (plain g (goal.at.returns-then-width-interval-clause-at_most g c).After-width))

pub returns-else-width-interval-clause-at_most : goal.returns-else-width-interval-clause-at_most
returns-else-width-interval-clause-at_most g c = omega (arith, c.add_by_class.ensures.same_bins, few-bins g.T.Counter.greatest c.args.self.now (plain g (goal.at.returns-else-width-interval-clause-at_most g c).After-width))
