use Rattle.std.proofs.Common.{◌≡◌, List, map, take}
use Rattle.std.specs.List.{fold}
use Rattle.hdr_model.specs.Plain.{Plain}
use Rattle.hdr_figures.specs.Classes.{IsMarkedBySamples}
use Rattle.hdr_figures.specs.Figures.{no_peaks, peaks_with}
use Rattle.hdr_figures.specs.Intervals.{AreHistogramsOf, sum_of}
use Rattle.hdr_figures.proofs.sums.Sums.add_point.Given as goal

abbrev pub invariant-loop-key : goal.invariant-loop-key
invariant-loop-key l = (all : List Plain)
    × AreHistogramsOf (map (λ k. k.interval.now) (take l.key-index l.keys)) all
    × (l.self.point.histogram ≡ sum_of l.initial.self.point.histogram all)
    × (l.self.peaks ≡ fold peaks_with no_peaks all)
    × IsMarkedBySamples l.self.point.histogram
