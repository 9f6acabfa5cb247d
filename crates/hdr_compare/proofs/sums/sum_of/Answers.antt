use Rattle.std.proofs.Common.{[], get_or}
use Rattle.std.specs.List.{All}
use Rattle.std.proofs.lemmas.Result.{IfOk-weaker}
use Rattle.hdr_base.specs.Classes.{IsFiner}
use Rattle.hdr_model.specs.Plain.{Plain, resolution}
use Rattle.hdr_model.specs.Samples.{StandsFor}
use Rattle.hdr_compare.specs.Sums.{IsSumOf}
use Rattle.hdr_compare.proofs.Widths.{finer-within}
use Rattle.hdr_compare.proofs.sums.sum_of.Goals as goal

pub returns-clause-samples : goal.returns-clause-samples
returns-clause-samples c =
    let batches = c.args.batches.now in
    let sum = c.in_ok-sum.sum in
    let finer : All (λ (h : Plain). IsFiner (resolution h) (resolution sum)) batches =
    λ k d inside. finer-within c.width_of.result (get_or batches k d) sum c.in_ok-sum.ensures.low c.in_ok-sum.ensures.sigfig (c.width_of.ensures.within k d inside) in
    IfOk-weaker c.added.result (λ all. StandsFor sum [] → All (λ (h : Plain). IsFiner (resolution h) (resolution sum)) batches → IsSumOf batches all) (IsSumOf batches)
    (λ all stands. stands c.in_ok-sum.ensures.stands finer) c.added.ensures.samples
