use Rattle.std.proofs.Common.{◌≡◌, arith, subst, refl}
use Rattle.hdr_base.specs.Classes.{Resolution}
use Rattle.hdr_log.specs.Timed.{timed_intervals}
use Rattle.hdrhistogram.specs.LogMerging.{new_merging, coarser_of}
use Rattle.hdrhistogram.proofs.ChosenAdded.{all_added, chosen_once, all_taken, added_digits, empty_resolution}
use Rattle.hdrhistogram.proofs.FinerCounted.{none_is_coarser}
use Rattle.hdrhistogram.proofs.laws.merging_adds_the_chosen.Goals as goal

pub returns-clause-added : goal.returns-clause-added
returns-clause-added c = λ greatest sigfig filter log m merges.
    let a = all_added greatest filter (timed_intervals log) (new_merging sigfig) m merges in
    (a.0, a.1, (a.2, omega (arith, a.3), subst (λ (g : Resolution). m.coarser ≡ coarser_of g a.0) (empty_resolution sigfig) (omega (arith, a.4))))

pub returns-clause-only : goal.returns-clause-only
returns-clause-only c = chosen_once

pub returns-clause-finer : goal.returns-clause-finer
returns-clause-finer c = none_is_coarser

pub returns-clause-taken : goal.returns-clause-taken
returns-clause-taken c = λ greatest sigfig filter log hs r chosen merges. rw (all_taken greatest filter (timed_intervals log) (new_merging sigfig) r hs chosen merges).1 refl

pub returns-clause-digits : goal.returns-clause-digits
returns-clause-digits c = λ greatest sigfig filter log m merges.
    let a = all_added greatest filter (timed_intervals log) (new_merging sigfig) m merges in
    added_digits greatest sigfig m.histogram a.0 a.2
