use Rattle.std.proofs.Common.{◌≡◌, ◌-◌, true, get_or, filter, sym, ◌∙◌, refl, subst, arith}
use Rattle.std.specs.List.{range_with_len, Contains}
use Rattle.std.proofs.lemmas.Bool.{ltb-true, lt-ltb}
use Rattle.hdr_iterators.specs.Seen.{Seen, bins_in}
use Rattle.hdr_iterators.specs.Picks.{places, RiseFrom}
use Rattle.hdr_iterators.specs.Places.{all_picks, recorded_picks, bins_from, is_nonempty}
use Rattle.hdr_iterators.proofs.PicksOnce.{places-of_bins, kept_all, kept_pass, pass_kept, kept_rise}
use Rattle.hdr_iterators.proofs.laws.bins_once.Goals as goal

all_is : (h : Seen) → places (all_picks h) ≡ filter (λ _. true) (range_with_len 0 (bins_in h - 0))
all_is h = places-of_bins (bins_from h 0) ∙ sym (kept_all 0 (bins_in h - 0))

recorded_is : (h : Seen) → places (recorded_picks h) ≡ filter (is_nonempty h) (range_with_len 0 (bins_in h - 0))
recorded_is h = places-of_bins (filter (is_nonempty h) (bins_from h 0))

pub returns-clause-all : goal.returns-clause-all
returns-clause-all c = λ h i. (
  (λ inside.
      let d = kept_pass (λ _. true) 0 (bins_in h - 0) i (subst (λ bs. Contains bs i) (all_is h) inside) in
      omega (arith, d.1)),
  (λ lt. subst (λ bs. Contains bs i) (sym (all_is h)) (pass_kept (λ _. true) 0 (bins_in h - 0) i (omega arith) (omega (arith, lt)) refl)),
)

pub returns-clause-all_rise : goal.returns-clause-all_rise
returns-clause-all_rise c = λ h. subst (RiseFrom 0) (sym (all_is h)) (kept_rise (λ _. true) 0 (bins_in h - 0))

pub returns-clause-recorded : goal.returns-clause-recorded
returns-clause-recorded c = λ h i. (
  (λ inside.
      let d = kept_pass (is_nonempty h) 0 (bins_in h - 0) i (subst (λ bs. Contains bs i) (recorded_is h) inside) in
      (omega (arith, d.1), ltb-true 0 (get_or h.numbers i 0) d.2)),
  (λ both. subst (λ bs. Contains bs i) (sym (recorded_is h)) (pass_kept (is_nonempty h) 0 (bins_in h - 0) i (omega arith) (omega (arith, both.0)) (lt-ltb 0 (get_or h.numbers i 0) both.1))),
)

pub returns-clause-recorded_rise : goal.returns-clause-recorded_rise
returns-clause-recorded_rise c = λ h. subst (RiseFrom 0) (sym (recorded_is h)) (kept_rise (is_nonempty h) 0 (bins_in h - 0))
