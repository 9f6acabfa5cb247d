use Rattle.std.proofs.Common.{◌≡◌, ◌-◌, ◌^◌, min, List, arith, subst}
use Rattle.std.specs.List.{sum_by}
use Rattle.hdr_model.specs.Plain.{Plain, resolution}
use Rattle.hdr_compare.specs.Sums.{AreLeastClasses, IsSumOf}
use Rattle.hdr_compare.proofs.run.Run.new.Goals as goal

pub invariant_of-result-clause-count : goal.invariant_of-result-clause-count
invariant_of-result-clause-count c =
    let counted = subst (λ (hs : List Plain). c.total_of-samples.result ≡ min (sum_by (λ h. h.total) hs) (2 ^ 64 - 1)) c.deref.ensures.value c.total_of-samples.ensures in
    omega (arith, counted, c.if-samples-ge-MOST_SAMPLES.false)

pub invariant_of-result-clause-sum : goal.invariant_of-result-clause-sum
invariant_of-result-clause-sum c = subst (λ (hs : List Plain). IsSumOf hs c.in_ok-sum_of.field-0) c.deref-2.ensures.value c.in_ok-sum_of.ensures.samples

pub invariant_of-result-clause-classes : goal.invariant_of-result-clause-classes
invariant_of-result-clause-classes c = ∣ subst (λ (hs : List Plain). AreLeastClasses hs (resolution c.in_ok-sum_of.field-0)) c.deref-2.ensures.value c.in_ok-sum_of.ensures.classes ∣₁
