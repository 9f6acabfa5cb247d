use Rattle.std.proofs.Common.{◌≡◌, ◌<◌, ℕ, List}
use Rattle.std.proofs.lemmas.Result.{IfOk-weaker}
use Rattle.hdr_model.specs.Quantiles.{ranked_sample}
use Rattle.hdr_verdict.specs.Slow.{samples_in, value_in}
use Rattle.hdr_verdict.specs.TagSamples.{HasSamples}
use Rattle.hdr_verdict.proofs.BlockFacts.{value-of-tail}
use Rattle.hdr_verdict.proofs.search.value_in.Goals as goal

pub returns-clause-value : goal.returns-clause-value
returns-clause-value c =
    let q = c.quantile.result in
    let left = c.args.left_out.now in
    let run = c.args.run in
    let tail = c.args.test.now.tail in
    IfOk-weaker c.value_in.result (λ value. (cells : List (List ℕ)) → HasSamples c.args.samples.now cells → 0 < q.num → 0 < q.den → value ≡ ranked_sample q (samples_in cells left run))
    (λ value. (cells : List (List ℕ)) → HasSamples c.args.samples.now cells → value ≡ value_in c.args.test.now cells left run)
    (λ value is cells s. value-of-tail q tail.num tail.den value (samples_in cells left run) c.quantile.ensures.value (is cells s c.quantile.ensures.some c.quantile.ensures.proper))
    c.value_in.ensures.value
