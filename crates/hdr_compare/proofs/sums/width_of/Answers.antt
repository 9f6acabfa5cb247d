use Rattle.std.proofs.Common.{◌≡◌, arith, get_or, sym, subst, inl, inr}
use Rattle.std.proofs.lemmas.Bool.{cases_lt}
use Rattle.std.proofs.lemmas.List.{get_or_default}
use Rattle.hdr_compare.specs.Sums.{IsWithin}
use Rattle.hdr_compare.proofs.Widths.{fewer_digits, greater_low}
use Rattle.hdr_compare.proofs.sums.width_of.Goals as goal

pub loop-batch-preserved : goal.loop-batch-preserved
loop-batch-preserved c =
    let batches = c.args.batches.now in
    let i = c.loop-batch.batch-index in
    let batch = c.batch-item.result in
    let width = c.loop-batch.width in
    let kept = c.loop-batch.invariant in (
      λ k d inside.
          elim (cases_lt k i) [
            | inl lt ↦ (
                let before = kept.0 k d lt in
                record { low = omega (arith, before.low, c.max.ensures); sigfig = omega (arith, before.sigfig, c.min.ensures) })
            | inr ge ↦ (
                let at : k ≡ i = omega (arith, inside, ge) in
                let here : IsWithin (record { low = c.max.result; sigfig = c.min.result }) batch =
                record { low = omega (arith, c.low.ensures, c.max.ensures); sigfig = omega (arith, c.sigfig.ensures.value, c.min.ensures) } in
                let item = subst (IsWithin (record { low = c.max.result; sigfig = c.min.result })) c.batch-item.is here in
                subst (λ n. IsWithin (record { low = c.max.result; sigfig = c.min.result }) (get_or batches n d)) (sym at) (subst (IsWithin (record { low = c.max.result; sigfig = c.min.result })) (get_or_default batches i _ d c.loop-batch-test.true) item))
          ],
      greater_low batches i batch width.low c.max.result c.loop-batch-test.true (sym c.batch-item.is) (omega (arith, c.low.ensures, c.max.ensures)) kept.1,
      fewer_digits batches i batch width.sigfig c.min.result c.loop-batch-test.true (sym c.batch-item.is) (omega (arith, c.sigfig.ensures.value, c.min.ensures)) kept.2,
    )

pub returns : goal.returns
returns c = record {
  within = λ k d inside. c.loop-batch.invariant.0 k d (omega (arith, inside, c.loop-batch-test.false));
  low = c.loop-batch.invariant.1;
  sigfig = c.loop-batch.invariant.2;
}
