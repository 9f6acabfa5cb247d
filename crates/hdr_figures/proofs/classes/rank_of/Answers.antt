use Rattle.std.proofs.Common.{◌∙◌, max, ap}
use Rattle.std.proofs.Math.Nat.{max_comm}
use Rattle.hdr_model.specs.Quantiles.{rank}
use Rattle.hdr_figures.proofs.classes.rank_of.Goals as goal

pub returns-clause-value : goal.returns-clause-value
unfolding rank
returns-clause-value c =
    let place = rw (c.from-share.ensures, c.min.ensures, c.from.ensures, c.from-2.ensures) at c.divided_up-place.ensures in
    c.max.ensures ∙ max_comm _ 1 ∙ ap (λ n. max 1 n) place
