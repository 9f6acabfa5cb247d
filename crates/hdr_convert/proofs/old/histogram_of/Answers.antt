use Rattle.std.proofs.Common.{rules, arith, ◌≡◌, ℕ, ◌*◌, ◌<◌, ◌≤◌, ◌⊎◌, length, refl, sym, ap, ◌∙◌}
use Rattle.hdr_base.specs.Classes.{bins_to, resolution_of}
use Rattle.hdr_model.specs.Plain.{empty_plain}
use Rattle.hdr_model.specs.Unfinished.{Unfinished}
use Rattle.hdr_convert.proofs.CounterLaws.{none_set, next_set, all_set}
use Rattle.hdr_convert.proofs.old.histogram_of.Goals as goal

-- src/old.rt:181:5
pub loop-bin-init : goal.loop-bin-init
unfolding empty_plain
loop-bin-init c =
    let bins = bins_to (resolution_of c.args.old.now.low c.in_ok-sigfig.sigfig) c.args.old.now.high in
    (refl, refl, none_set _ bins _ _ (ap (λ (f : Unfinished). f.counts) c.in_ok-builder.ensures.0))

-- src/old.rt:181:5
pub loop-bin-preserved : goal.loop-bin-preserved
loop-bin-preserved c =
    let lt : c.loop-bin.bin < length c.loop-bin.builder.counts = search rules in
    let next = next_set _ _ _ _ lt c.loop-bin.invariant.2 in
    (search rules, search rules, search (rules, next))

-- src/old.rt:164:1
pub returns : goal.returns
unfolding empty_plain
returns c =
    let long : (length c.args.old.now.counters.now ≤ c.loop-bin.bin) ⊎ (length c.loop-bin.builder.counts ≤ c.loop-bin.bin)
    = grind (arith, c.min-bin-end.ensures, c.loop-bin-test.false) in
    let same = c.into_histogram.ensures.same ∙ c.loop-bin.invariant.0 in
    let made = c.in_ok-builder.ensures.0 in
    let bins : length c.loop-bin.builder.counts ≡ c.distinct_values-bins.result = search rules in
    let zeros = λ (k : ℕ) (le : c.args.old.now.width * length c.loop-bin.builder.counts ≤ k). c.are_zero_from.ensures (search rules) k (rw (sym bins) le) in (
      sym (ap (λ (f : Unfinished). f.sigfig) same ∙ ap (λ (f : Unfinished). f.sigfig) made ∙ c.in_ok-sigfig.ensures),
      sym (ap (λ (f : Unfinished). f.low) same ∙ ap (λ (f : Unfinished). f.low) made),
      sym (ap (λ (f : Unfinished). f.high) same ∙ ap (λ (f : Unfinished). f.high) made),
      all_set _ _ _ _ _ c.requires long zeros c.loop-bin.invariant.2 (ap (λ (f : Unfinished). f.counts) same),
    )
