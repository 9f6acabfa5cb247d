use Rattle.std.proofs.Common.{◌∙◌, [], true, ap, sym, subst, lit<}
use Rattle.hdr_base.specs.Classes.{Resolution}
use Rattle.hdr_model.specs.Plain.{Plain, empty_plain}
use Rattle.hdr_model.specs.Samples.{StandsFor, Fits}
use Rattle.hdr_model.specs.Joining.{after_adds, AreParts, joined_samples, AnswersRanked}
use Rattle.hdr_log.specs.Timed.{timed_intervals}
use Rattle.hdrhistogram.proofs.ChosenAdded.{empty_resolution}
use Rattle.hdrhistogram.proofs.laws.merged_log_stands.Goals as goal

pub returns-clause-sum : goal.returns-clause-sum
returns-clause-sum c = λ greatest sigfig filter log m Ls given.
    let hs = given.histograms in
    let h = empty_plain 1 2 sigfig true in
    let a = c.merging_adds_the_chosen.ensures.added greatest sigfig filter log m given.merged in
    let same = a.2.0 ∙ ap (after_adds greatest h) (c.merging_adds_the_chosen.ensures.only filter (timed_intervals log) a.0 hs a.1 given.chosen) in
    let resolution = sym (empty_resolution sigfig) in
    let sum = c.joined_stands.ensures.sum greatest 18446744073709551615 h hs [] Ls given.counts
    (c.new_is_plain.ensures greatest 1 2 sigfig true given.bounds (lit< tt)) (c.clearing_stands.ensures.made 1 2 sigfig true)
    (subst (λ (g : Resolution). AreParts 18446744073709551615 g hs Ls) resolution given.parts) (subst (λ (g : Resolution). Fits greatest g (joined_samples Ls)) resolution given.fits) in
    subst (λ (k : Plain). StandsFor k (joined_samples Ls)) (sym same) sum.0

pub returns-clause-ranked : goal.returns-clause-ranked
returns-clause-ranked c = λ greatest sigfig filter log m Ls given.
    let hs = given.histograms in
    let h = empty_plain 1 2 sigfig true in
    let a = c.merging_adds_the_chosen.ensures.added greatest sigfig filter log m given.merged in
    let same = a.2.0 ∙ ap (after_adds greatest h) (c.merging_adds_the_chosen.ensures.only filter (timed_intervals log) a.0 hs a.1 given.chosen) in
    let resolution = sym (empty_resolution sigfig) in
    let ranked = c.joined_stands.ensures.ranked greatest 18446744073709551615 h hs [] Ls given.counts
    (c.new_is_plain.ensures greatest 1 2 sigfig true given.bounds (lit< tt)) (c.clearing_stands.ensures.made 1 2 sigfig true)
    (subst (λ (g : Resolution). AreParts 18446744073709551615 g hs Ls) resolution given.parts) (subst (λ (g : Resolution). Fits greatest g (joined_samples Ls)) resolution given.fits) in
    subst (λ (k : Plain). AnswersRanked k (joined_samples Ls)) (sym same) ranked
