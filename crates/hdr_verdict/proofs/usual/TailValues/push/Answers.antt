use Rattle.std.proofs.Common.{◌∙◌, ◌*◌, ap, refl, ◌++◌, ◌∷◌, []}
use Rattle.hdr_verdict.proofs.BlockFacts.{value-of-tail}
use Rattle.hdr_verdict.proofs.usual.TailValues.push.Goals as goal

pub returns : goal.returns
returns c =
    let tail = c.args.self.now.tail in
    record {
      tail = refl;
      values = λ S same part. c.in_ok-push.ensures.items
          ∙ ap (λ v. c.args.self.now.values.items ++ v ∷ []) (value-of-tail c.quantile.result tail.num tail.den c.value.result S c.quantile.ensures.value (c.value.ensures S same part c.quantile.ensures.some c.quantile.ensures.proper));
      halves = λ S same part. c.in_ok-push-2.ensures.items
          ∙ ap (λ v. c.args.self.now.halves.items ++ v ∷ []) (value-of-tail c.half_quantile.result tail.num (2 * tail.den) c.value-2.result S c.half_quantile.ensures.value (c.value-2.ensures S same part c.half_quantile.ensures.some c.half_quantile.ensures.proper));
    }
