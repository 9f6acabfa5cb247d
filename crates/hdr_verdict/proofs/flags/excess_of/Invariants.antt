use Rattle.std.proofs.Common.{◌≡◌, ◌-◌, ◌^◌, take, min}
use Rattle.std.specs.List.{sum_by}
use Rattle.hdr_verdict.specs.declared.score.Score.{Score}
use Rattle.hdr_verdict.proofs.flags.excess_of.Given as goal

abbrev pub invariant-loop-score : goal.invariant-loop-score
invariant-loop-score l = record {
  gain : l.gain ≡ min (sum_by (λ (score : Score). score.gain) (take l.score-index l.score-items)) (2 ^ 128 - 1);
  loss : l.loss ≡ min (sum_by (λ (score : Score). score.loss) (take l.score-index l.score-items)) (2 ^ 128 - 1);
}
