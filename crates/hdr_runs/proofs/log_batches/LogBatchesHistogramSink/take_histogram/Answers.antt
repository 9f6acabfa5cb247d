use Rattle.std.proofs.Common.{refl, subst}
use Rattle.std.proofs.lemmas.Result.{on_ok_weaker}
use Rattle.hdr_compare.specs.declared.batching.Batching.{Batching}
use Rattle.hdr_runs.specs.SumBatches.{AddsTo}
use Rattle.hdr_runs.proofs.log_batches.LogBatchesHistogramSink.take_histogram.Goals as goal

pub returns : goal.returns
returns c =
    let batching = c.add_to.new.batching in
    let P : Batching → Type 0 = λ old. AddsTo c.args.histogram.now old batching in
    record {
      taken = on_ok_weaker c.add_to.result
          (λ adds. record {
            digits_stay = c.in_ok-reach.ensures.digits;
            reached = c.reach.new.self.sums.items;
            reaches = c.in_ok-reach.ensures.sums;
            batching = batching;
            adds = subst P (c.in-Some.ensures.item.3.1 batching) adds;
            sums = refl;
          })
          c.add_to.ensures;
    }
